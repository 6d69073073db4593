-- Binding and ending an entry leave as many servers.
use Rattle.std.proofs.Common.{◌≡◌, Bool, true, false, cond, List, [], ◌∷◌, length, suc, Option, Some, None, refl, ap, ◌∙◌}
use Rattle.lvs_types.specs.declared.addr.DestId.{DestId}
use Rattle.lvs_types.specs.declared.dest.Dest.{Dest}
use Rattle.lvs_types.specs.declared.entry.Entry.{Entry}
use Rattle.lvs_model.specs.State.{State}
use Rattle.lvs_model.specs.Lists.{update_first}
use Rattle.lvs_model.specs.Lookups.{has_dest_id}
use Rattle.lvs_model.specs.Overload.{overload_bound, overload_ended}
use Rattle.lvs_model.specs.Counts.{total}
use Rattle.lvs_model.specs.Binding.{count_ended, bind_entry, try_binding, server_for_entry}
use Rattle.lvs_model.specs.Incoming.{end_entry}

step : {X : Type 0} (b : Bool) (x y : X) (xs ys : List X) → length ys ≡ length xs → length (cond b (y ∷ xs) (x ∷ ys)) ≡ length (x ∷ xs)
step true x y xs ys same = refl
step false x y xs ys same = ap (λ n. suc n) same

updated : {X : Type 0} (p : X → Bool) (f : X → X) (xs : List X) → length (update_first p f xs) ≡ length xs
updated p f [] = refl
updated p f (x ∷ xs) = step (p x) x (f x) xs (update_first p f xs) (updated p f xs)

ended : (o : Option DestId) (es : List Entry) (ds : List Dest) → length (count_ended o es ds) ≡ length ds
ended None es ds = refl
ended (Some id) es ds = updated (has_dest_id id) (λ (d : Dest). record d { overloaded = overload_ended d.spec (total id es) d.overloaded }) ds

pub ended_length : (e : Entry) (s t : State) → t ≡ end_entry e s → length t.dests ≡ length s.dests
ended_length e s t is = ap (λ (x : State). length x.dests) is ∙ ended e.server (end_entry e s).entries s.dests

bound : (s : State) (e : Entry) (o : Option Dest) → length (bind_entry s e o).1.dests ≡ length s.dests
bound s e None = refl
bound s e (Some d) = updated (has_dest_id d.id) (λ (x : Dest). record x { overloaded = overload_bound x.spec (total d.id (bind_entry s e (Some d)).1.entries) x.overloaded }) s.dests

tried : (s : State) (e : Entry) (o : Option DestId) → length (try_binding s e o).1.dests ≡ length s.dests
tried s e None = bound s e (server_for_entry s.services s.dests e)
tried s e (Some id) = refl

pub bound_length : (s : State) (e b : Entry) (t : State) → (b, t) ≡ try_binding s e e.server → length t.dests ≡ length s.dests
bound_length s e b t is = ap (λ (x : Entry × State). length x.1.dests) is ∙ tried s e e.server
