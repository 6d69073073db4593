-- The four kinds of step of the relay's rule: a post, a take, the parting of the two ends, and their rejoining.
use Rattle.std.proofs.Common.{◌≡◌, ◌≢◌, ◌⊎◌, ℕ, zero, suc, ◌<◌, ◌≤◌, ◌+◌, List, [], ◌∷◌, ◌++◌, length, set, sym, refl, ap, ◌∙◌, subst, inl, inr, ⊎_elim, append_assoc, arith}
use mathlib.Core.Option.{some, some-injective, some-ne-none}
use lib.ListN.{get_elem?}
use Rattle.std.proofs.lemmas.List.{length-append}
use Rattle.crossbeam_queue.specs.Fifo.{Pushes, Pops, Forks, Merges, Learns}
use Rattle.crossbeam_queue.proofs.Lists.{at_set, set_else}
use Rattle.lvs_pair.specs.declared.rule.Side.{Side}
use Rattle.lvs_pair.specs.declared.rule.Side.TheVariants.{Both, Posts, Takes, Spent}
use Rattle.lvs_pair.specs.Rule.{Fits, Relayed}
use Rattle.lvs_pair.specs.Sides.{begun, spent, posted_of, taken_of, left_of, with_posted, with_taken, poster_of, taker_of, both_of, Holds, Leads, IsBoth, IsPoster, IsTaker}

-- WHO STANDS WHERE

-- a pass that neither posts nor takes
abbrev IsIdle : Side → Type 0
IsIdle (Both sent got) = ⊥
IsIdle (Posts sent) = ⊥
IsIdle (Takes got) = ⊥
IsIdle Spent = Unit {0}

idle_fits : (poster taker : ℕ) (posted taken : List (List ℕ)) (pass : ℕ) (side : Side) → IsIdle side → Fits poster taker posted taken pass side
idle_fits poster taker posted taken pass (Both sent got) idle = absurd idle
idle_fits poster taker posted taken pass (Posts sent) idle = absurd idle
idle_fits poster taker posted taken pass (Takes got) idle = absurd idle
idle_fits poster taker posted taken pass Spent idle = tt

-- one that is neither the poster nor the taker is idle
neither : (poster taker : ℕ) (posted taken : List (List ℕ)) (pass : ℕ) (side : Side) → pass ≢ poster → pass ≢ taker → Fits poster taker posted taken pass side → IsIdle side
neither poster taker posted taken pass (Both sent got) ne ne' f = ne f.0
neither poster taker posted taken pass (Posts sent) ne ne' f = ne f.0
neither poster taker posted taken pass (Takes got) ne ne' f = ne' f.0
neither poster taker posted taken pass Spent ne ne' f = tt

-- one that isn't the poster fits another list of posts
not_poster : (poster taker : ℕ) (posted later taken : List (List ℕ)) (pass : ℕ) (side : Side) → pass ≢ poster → Fits poster taker posted taken pass side → Fits poster taker later taken pass side
not_poster poster taker posted later taken pass (Both sent got) ne f = absurd (ne f.0)
not_poster poster taker posted later taken pass (Posts sent) ne f = absurd (ne f.0)
not_poster poster taker posted later taken pass (Takes got) ne f = f
not_poster poster taker posted later taken pass Spent ne f = tt

-- one that isn't the taker fits another list of what was taken
not_taker : (poster taker : ℕ) (posted taken later : List (List ℕ)) (pass : ℕ) (side : Side) → pass ≢ taker → Fits poster taker posted taken pass side → Fits poster taker posted later pass side
not_taker poster taker posted taken later pass (Both sent got) ne f = absurd (ne f.1)
not_taker poster taker posted taken later pass (Posts sent) ne f = f
not_taker poster taker posted taken later pass (Takes got) ne f = absurd (ne f.0)
not_taker poster taker posted taken later pass Spent ne f = tt

-- where one pass changes, each of the others is as it was
changed : (P : ℕ → Side → Type 0) (sides : List Side) (pass : ℕ) (side : Side) → P pass side
    → ((j : ℕ) (other : Side) → j ≢ pass → get_elem? sides j ≡ some other → P j other) → (j : ℕ) (other : Side) → get_elem? (set sides pass side) j ≡ some other → P j other
changed P sides pass side here else j other at =
    ⊎_elim (λ (h : (j ≡ pass) × (side ≡ other)). subst (P j) h.1 (subst (λ n. P n side) (sym h.0) here)) (λ (h : (j ≢ pass) × (get_elem? sides j ≡ some other)). else j other h.0 h.1) (at_set sides pass j side other at)

-- where a pass joins, it stands last
last_or : (sides : List Side) (added side : Side) (j : ℕ) → get_elem? (sides ++ added ∷ []) j ≡ some side → (get_elem? sides j ≡ some side) ⊎ ((j ≡ length sides) × (added ≡ side))
last_or [] added side zero at = inr (refl, some-injective added side at)
last_or [] added side (suc j) at = absurd (some-ne-none side (sym at))
last_or (x ∷ xs) added side zero at = inl at
last_or (x ∷ xs) added side (suc j) at = ⊎_elim (λ h. inl h) (λ (h : (j ≡ length xs) × (added ≡ side)). inr (ap suc h.0, h.1)) (last_or xs added side j at)

-- a pass that is there has a number below the count
below : (sides : List Side) (j : ℕ) (side : Side) → get_elem? sides j ≡ some side → j < length sides
below [] j side at = absurd (some-ne-none side (sym at))
below (x ∷ xs) zero side at = omega arith
below (x ∷ xs) (suc j) side at = let more = below xs j side at in omega arith

-- THE BEGINNING

only : (j : ℕ) (side : Side) → get_elem? (begun ∷ []) j ≡ some side → Fits 0 0 [] [] j side
only zero side at = subst (Fits 0 0 [] [] 0) (some-injective begun side at) (refl, refl, refl, refl)
only (suc j) side at = absurd (some-ne-none side (sym at))

pub begins : Relayed [] (begun ∷ [])
begins = record { poster = 0; taker = 0; posted = []; taken = []; order = refl; each = only }

-- A POST

pub posts_by : (n pass : ℕ) (side : Side) (message : List ℕ) → IsPoster side → Pushes Relayed n pass side message (λ later. later ≡ with_posted message side)
posts_by n pass (Both sent got) message is = absurd is
posts_by n pass (Posts sent) message is = λ messages sides room r at.
    let me = r.each pass (Posts sent) at in
    let posted = r.posted ++ message ∷ [] in (
      Posts (sent ++ message ∷ []),
      record {
        poster = r.poster;
        taker = r.taker;
        posted = posted;
        taken = r.taken;
        order = ap (λ l. l ++ message ∷ []) r.order ∙ append_assoc r.taken messages (message ∷ []);
        each = changed (Fits r.poster r.taker posted r.taken) sides pass (Posts (sent ++ message ∷ [])) (me.0, ap (λ l. l ++ message ∷ []) me.1)
            (λ j other ne there. not_poster r.poster r.taker r.posted posted r.taken j other (λ e. ne (e ∙ sym me.0)) (r.each j other there));
      },
      refl,
    )
posts_by n pass (Takes got) message is = absurd is
posts_by n pass Spent message is = absurd is

-- one that posts knows that the queue holds no more than it posted
pub fills_by : (pass : ℕ) (side : Side) → IsPoster side → Learns Relayed pass side (λ messages. length messages ≤ length (posted_of side))
fills_by pass (Both sent got) is = absurd is
fills_by pass (Posts sent) is = λ messages sides r at. let me = r.each pass (Posts sent) at in
    let count : length sent ≡ length r.taken + length messages = ap length (me.1 ∙ r.order) ∙ length-append r.taken messages in omega arith
fills_by pass (Takes got) is = absurd is
fills_by pass Spent is = absurd is

-- A TAKE

-- what was taken, and then the rest
moved : (posted taken messages : List (List ℕ)) (message : List ℕ) → posted ≡ taken ++ message ∷ messages → posted ≡ (taken ++ message ∷ []) ++ messages
moved posted taken messages message order = order ∙ sym (append_assoc taken (message ∷ []) messages)

pub takes_by : (pass : ℕ) (side : Side) → IsTaker side → Pops Relayed pass side (λ message later. (later ≡ with_taken message side) × Leads side message)
takes_by pass (Both sent got) is = absurd is
takes_by pass (Posts sent) is = absurd is
takes_by pass (Takes got) is = λ message messages sides r at.
    let me = r.each pass (Takes got) at in
    let taken = r.taken ++ message ∷ [] in (
      Takes (got ++ message ∷ []),
      record {
        poster = r.poster;
        taker = r.taker;
        posted = r.posted;
        taken = taken;
        order = moved r.posted r.taken messages message r.order;
        each = changed (Fits r.poster r.taker r.posted taken) sides pass (Takes (got ++ message ∷ [])) (me.0, ap (λ l. l ++ message ∷ []) me.1)
            (λ j other ne there. not_taker r.poster r.taker r.posted r.taken taken j other (λ e. ne (e ∙ sym me.0)) (r.each j other there));
      },
      (refl, ([], tt)),
    )
takes_by pass Spent is = absurd is

pub taker_learns : (pass : ℕ) (side : Side) → IsTaker side → Learns Relayed pass side (Holds side)
taker_learns pass (Both sent got) is = absurd is
taker_learns pass (Posts sent) is = absurd is
taker_learns pass (Takes got) is = λ messages sides r at. tt
taker_learns pass Spent is = absurd is

-- one that has both parts knows what it takes
pub takes_left_by : (pass : ℕ) (side : Side) → IsBoth side → Pops Relayed pass side (λ message later. (later ≡ with_taken message side) × Leads side message)
takes_left_by pass (Both sent got) is = λ message messages sides r at.
    let me = r.each pass (Both sent got) at in
    let taken = r.taken ++ message ∷ [] in (
      Both sent (got ++ message ∷ []),
      record {
        poster = r.poster;
        taker = r.taker;
        posted = r.posted;
        taken = taken;
        order = moved r.posted r.taken messages message r.order;
        each = changed (Fits r.poster r.taker r.posted taken) sides pass (Both sent (got ++ message ∷ [])) (me.0, me.1, me.2, ap (λ l. l ++ message ∷ []) me.3)
            (λ j other ne there. not_taker r.poster r.taker r.posted r.taken taken j other (λ e. ne (e ∙ sym me.1)) (r.each j other there));
      },
      (refl, (messages, me.2 ∙ r.order ∙ ap (λ l. l ++ message ∷ messages) (sym me.3))),
    )
takes_left_by pass (Posts sent) is = absurd is
takes_left_by pass (Takes got) is = absurd is
takes_left_by pass Spent is = absurd is

pub holds_left_by : (pass : ℕ) (side : Side) → IsBoth side → Learns Relayed pass side (Holds side)
holds_left_by pass (Both sent got) is = λ messages sides r at. let me = r.each pass (Both sent got) at in me.2 ∙ r.order ∙ ap (λ l. l ++ messages) (sym me.3)
holds_left_by pass (Posts sent) is = absurd is
holds_left_by pass (Takes got) is = absurd is
holds_left_by pass Spent is = absurd is

-- THE PARTING

parted : (pass : ℕ) → Forks Relayed pass begun (poster_of begun) (taker_of begun)
parted pass = λ messages sides r at.
    let me = r.each pass begun at in
    let left = set sides pass (Posts []) in
    let fits = changed (Fits pass (length left) r.posted r.taken) sides pass (Posts []) (refl, me.2)
    (λ j other ne there. idle_fits pass (length left) r.posted r.taken j other (neither r.poster r.taker r.posted r.taken j other (λ e. ne (e ∙ sym me.0)) (λ e. ne (e ∙ sym me.1)) (r.each j other there))) in
    record {
      poster = pass;
      taker = length left;
      posted = r.posted;
      taken = r.taken;
      order = r.order;
      each = λ j side there. ⊎_elim (λ (h : get_elem? left j ≡ some side). fits j side h)
          (λ (h : (j ≡ length left) × (Takes [] ≡ side)). subst (Fits pass (length left) r.posted r.taken j) h.1 (h.0, me.3)) (last_or left (Takes []) side j there);
    }

pub forks_begun : (pass : ℕ) (side : Side) → side ≡ begun → Forks Relayed pass side (poster_of side) (taker_of side)
forks_begun pass side is = subst (λ v. Forks Relayed pass v (poster_of v) (taker_of v)) (sym is) (parted pass)

-- THE REJOINING

rejoined : (pass other : ℕ) (sent got : List (List ℕ)) → Merges Relayed pass (Posts sent) other (Takes got) (Both sent got) Spent
rejoined pass other sent got = λ messages sides r at differ there.
    let me = r.each pass (Posts sent) at in
    let there' : get_elem? sides other ≡ some (Takes got) = sym (set_else sides pass other (Both sent got) differ) ∙ there in
    let it = r.each other (Takes got) there' in
    let fits : (j : ℕ) (side : Side) → j ≢ other → get_elem? (set sides pass (Both sent got)) j ≡ some side → Fits pass pass r.posted r.taken j side =
    λ j side ne at'. changed (λ n x. n ≢ other → Fits pass pass r.posted r.taken n x) sides pass (Both sent got) (λ _. (refl, refl, me.1, it.1))
    (λ n x ne' at'' ne''. idle_fits pass pass r.posted r.taken n x (neither r.poster r.taker r.posted r.taken n x (λ e. ne' (e ∙ sym me.0)) (λ e. ne'' (e ∙ sym it.0)) (r.each n x at''))) j side at' ne in
    record {
      poster = pass;
      taker = pass;
      posted = r.posted;
      taken = r.taken;
      order = r.order;
      each = changed (Fits pass pass r.posted r.taken) (set sides pass (Both sent got)) other Spent tt fits;
    }

pub merges_by : (pass : ℕ) (side : Side) (other : ℕ) (theirs : Side) → IsPoster side → IsTaker theirs → Merges Relayed pass side other theirs (both_of side theirs) spent
merges_by pass (Both sent got) other theirs is is' = absurd is
merges_by pass (Posts sent) other (Both sent' got) is is' = absurd is'
merges_by pass (Posts sent) other (Posts sent') is is' = absurd is'
merges_by pass (Posts sent) other (Takes got) is is' = rejoined pass other sent got
merges_by pass (Posts sent) other Spent is is' = absurd is'
merges_by pass (Takes got) other theirs is is' = absurd is
merges_by pass Spent other theirs is is' = absurd is
