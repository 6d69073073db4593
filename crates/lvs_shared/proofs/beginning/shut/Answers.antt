use Rattle.std.proofs.Common.{rules, arith, length, ap}
use Rattle.lvs_book.specs.Passes.{Held}
use Rattle.lvs_shared.specs.declared.origin.Act.{Act}
use Rattle.lvs_shared.specs.declared.origin.Opened.{Opened}
use Rattle.lvs_shared.specs.Openings.{begun}
use Rattle.lvs_shared.proofs.Dealing.{last_pass, none_left, is_new_home, buckets_cut, cut_length}
use Rattle.lvs_shared.proofs.beginning.shut.Goals as goal

pub new-requires-clause-book : goal.new-requires-clause-book
new-requires-clause-book g c = let o = g.N.RoundName.book.origin in let z = g.N.RoundName.book.id in let ms = c.pop.new.self.items in
    let n = cut_length c.loop-bucket.buckets.items ms c.in-Some.bucket c.in-Some.ensures.items in
    let last = last_pass z o (length c.loop-bucket.buckets.items) (length ms) c.loop-bucket.passes.items c.pop-in-Some.new.self.items c.in-Some-pop.pass c.loop-bucket.invariant.passes n c.in-Some-pop.ensures.items in
    ap (λ (p : Held Opened Act). p.book) last.1

pub new-requires-clause-home : goal.new-requires-clause-home
new-requires-clause-home g c = let o = g.N.RoundName.book.origin in let z = g.N.RoundName.book.id in let ms = c.pop.new.self.items in
    let n = cut_length c.loop-bucket.buckets.items ms c.in-Some.bucket c.in-Some.ensures.items in
    let last = last_pass z o (length c.loop-bucket.buckets.items) (length ms) c.loop-bucket.passes.items c.pop-in-Some.new.self.items c.in-Some-pop.pass c.loop-bucket.invariant.passes n c.in-Some-pop.ensures.items in
    is_new_home z o c.loop-bucket.buckets.items ms c.in-Some.bucket c.in-Some-pop.pass c.requires.opened c.loop-bucket.invariant.buckets c.in-Some.ensures.items c.loop-bucket.invariant.count last.1

pub loop-bucket-preserved : goal.loop-bucket-preserved
loop-bucket-preserved g c = let o = g.N.RoundName.book.origin in let z = g.N.RoundName.book.id in let ms = c.pop.new.self.items in
    let i = c.loop-bucket.invariant in
    let n = cut_length c.loop-bucket.buckets.items ms c.in-Some.bucket c.in-Some.ensures.items in
    let last = last_pass z o (length c.loop-bucket.buckets.items) (length ms) c.loop-bucket.passes.items c.pop-in-Some.new.self.items c.in-Some-pop.pass i.passes n c.in-Some-pop.ensures.items in
    record {
      buckets = buckets_cut (begun o) c.loop-bucket.buckets.items ms c.in-Some.bucket i.buckets c.in-Some.ensures.items;
      count = omega (arith, n, i.count);
      passes = last.0;
      len = search rules;
      room = search rules;
    }

pub unreachable-requires : goal.unreachable-requires
unreachable-requires g c = let o = g.N.RoundName.book.origin in let ms = c.pop.new.self.items in
    none_left g.N.RoundName.book.id o (length c.loop-bucket.buckets.items) (length ms) c.loop-bucket.passes.items c.loop-bucket.invariant.passes (search rules) (cut_length c.loop-bucket.buckets.items ms c.in-Some.bucket c.in-Some.ensures.items)
