use Rattle.std.proofs.Common.{◌≡◌, drop}
use Rattle.lvs_templates.specs.Rows.{without_all}
use Rattle.lvs_templates.specs.Maps.{IsWhole, rows_of}
use Rattle.lvs_templates.proofs.maps.Maps.leave_all.Given as goal

abbrev pub invariant-loop-template : goal.invariant-loop-template
invariant-loop-template l = record {
  whole : IsWhole l.self;
  room : l.self.room ≡ l.fn.self.room;
  to_do : without_all (drop l.template-index l.gone) (rows_of l.self) ≡ without_all l.gone (rows_of l.fn.self);
}
