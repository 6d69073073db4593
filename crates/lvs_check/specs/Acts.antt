-- A round with one act alone.
use Rattle.std.specs.Prelude.{ℕ, [], ◌∷◌}
use Rattle.lvs_types.specs.declared.book.RoundBook.{RoundBook}
use Rattle.lvs_types.specs.declared.item.Item.TheVariants as item
use Rattle.lvs_types.specs.declared.reply.Reply.{Reply}

abbrev pub lone_act : ℕ → ℕ → Reply → RoundBook
lone_act actor number reply = record {
  number = 0;
  moment = 0;
  workers = 0;
  buckets = 0;
  acts = record { actor = actor; number = number; item = item.Reap; reply = reply } ∷ [];
  shown = [];
}
