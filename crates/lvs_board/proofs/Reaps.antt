-- Due templates leave or are held longer, and servers that nothing names leave.
use Rattle.std.proofs.Common.{◌≡◌, ◌+◌, ◌-◌, ◌<◌, ◌≤◌, ℕ, Bool, true, false, cond, not, ◌&&◌, ◌==◌, List, [], ◌∷◌, Option, Some, None, refl, sym, ap, subst, ◌∙◌, map, length, arith, nat_eq, suc}
use Rattle.std.proofs.lemmas.Bool.Decides.{nat_tests}
use Rattle.std.proofs.lemmas.List.Sums.{length-filter}
use Rattle.std.specs.Prelude.{IfSome}
use Rattle.std.specs.List.{count_by, filter, filter_map, cons_option}
use Rattle.lvs_types.specs.declared.addr.DestId.{DestId}
use Rattle.lvs_types.specs.declared.addr.TemplateId.{TemplateId}
use Rattle.lvs_types.specs.declared.dest.Dest.{Dest}
use Rattle.lvs_types.specs.declared.dest.DestRow.{DestRow}
use Rattle.lvs_types.specs.declared.entry.Entry.{Entry}
use Rattle.lvs_types.specs.declared.template.Template.{Template}
use Rattle.lvs_types.specs.declared.reply.Reply.{Reply}
use Rattle.lvs_types.specs.declared.reply.Reply.TheVariants as reply
use Rattle.lvs_model.specs.State.{State}
use Rattle.lvs_model.specs.Same.{dest_eq}
use Rattle.lvs_model.specs.Lists.{without}
use Rattle.lvs_model.specs.Counts.{row_of, active, inactive, template_count}
use Rattle.lvs_model.specs.Clock.{reap, reaped_template, reaped_templates, held_longer, is_over, is_held, is_released}
use Rattle.lvs_model.specs.Lookups.{has_dest_id}
use Rattle.lvs_dests.specs.Rows.{DestsSeen, is_row_released, row_at}
use Rattle.lvs_templates.specs.declared.row.TemplateRow.{TemplateRow}
use Rattle.lvs_templates.specs.Seen.{TemplatesSeen}
use Rattle.lvs_templates.specs.Rows.{template_row, templates_of, leaves, is_renewed, renew, after_due}
use Rattle.lvs_well_formed.proofs.Lists.{all_filter_map}
use Rattle.lvs_well_formed.proofs.Distinct.{distinct_filter, distinct_filter_map}
use Rattle.lvs_board.specs.declared.desk.Desk.{Desk}
use Rattle.lvs_board.specs.Desks.{state_of, AreFew, IsSound}
use Rattle.lvs_board.specs.Held.{unhold_one, unholds_row, CanUnhold}
use Rattle.lvs_board.proofs.Counts.{one_if, count_cons}
use Rattle.lvs_board.proofs.Rows.{here_by}
use Rattle.lvs_board.proofs.Holds.{each_row}
use Rattle.lvs_board.proofs.Templating.{with_rows, Retabled, retabled, restated, retabled_state, retabled_sound}

-- WORDS ON LISTS

map_step : {X Y : Type 0} (g : X → Y) (b : Bool) (x : X) (ys : List Y) (xs : List X) → ys ≡ map g xs → cond b (g x ∷ ys) ys ≡ map g (cond b (x ∷ xs) xs)
map_step g true x ys xs is = ap (λ zs. g x ∷ zs) is
map_step g false x ys xs is = is

pub filter_rows : {X Y : Type 0} (g : X → Y) (p : Y → Bool) (q : X → Bool) (xs : List X) → ((x : X) → p (g x) ≡ q x) → filter p (map g xs) ≡ map g (filter q xs)
filter_rows g p q [] same = refl
filter_rows {X = X} {Y = Y} g p q (x ∷ xs) same =
    ap (λ b. cond b (g x ∷ filter p (map g xs)) (filter p (map g xs))) (same x) ∙ map_step g (q x) x (filter p (map g xs)) (filter q xs) (filter_rows g p q xs same)

pub count_rows : {X Y : Type 0} (g : X → Y) (p : Y → Bool) (q : X → Bool) (xs : List X) → ((x : X) → p (g x) ≡ q x) → count_by p (map g xs) ≡ count_by q xs
count_rows g p q [] same = refl
count_rows g p q (x ∷ xs) same = omega (arith, count_cons p (g x) (map g xs), count_cons q x xs, ap one_if (same x), count_rows g p q xs same)

map_length : {X Y : Type 0} (f : X → Y) (xs : List X) → length (map f xs) ≡ length xs
map_length f [] = refl
map_length f (x ∷ xs) = ap suc (map_length f xs)

-- TEMPLATES

due_step : (es : List Entry) (now : ℕ) (t : Template) (over held : Bool) (rows : List TemplateRow) (ts : List Template) → map (renew now) rows ≡ map (template_row es) ts → is_renewed now (template_row es t) ≡ held
    → map (renew now) (cond (not over) (template_row es t ∷ rows) rows) ≡ map (template_row es) (cons_option (cond over None (cond held (Some (held_longer now t)) (Some t))) ts)
due_step es now t true held rows ts rest is = rest
due_step es now t false true rows ts rest is =
    ap (λ b. cond b (record (template_row es t) { template = held_longer now t }) (template_row es t) ∷ map (renew now) rows) is ∙ ap (λ (zs : List TemplateRow). template_row es (held_longer now t) ∷ zs) rest
due_step es now t false false rows ts rest is =
    ap (λ b. cond b (record (template_row es t) { template = held_longer now t }) (template_row es t) ∷ map (renew now) rows) is ∙ ap (λ (zs : List TemplateRow). template_row es t ∷ zs) rest

due_rows : (s : State) (ts : List Template) → after_due s.now (map (template_row s.entries) ts) ≡ map (template_row s.entries) (filter_map (reaped_template s) ts)
due_rows s [] = refl
due_rows s (t ∷ ts) = due_step s.entries s.now t (is_over s t) (is_held s t) (without (leaves s.now) (map (template_row s.entries) ts)) (filter_map (reaped_template s) ts) (due_rows s ts) refl

templates_of_rows : (es : List Entry) (ts : List Template) → templates_of (map (template_row es) ts) ≡ ts
templates_of_rows es [] = refl
templates_of_rows es (t ∷ ts) = ap (λ (rest : List Template). t ∷ rest) (templates_of_rows es ts)

gone_are : (s : State) (ts : List Template) → templates_of (filter (leaves s.now) (map (template_row s.entries) ts)) ≡ filter (is_over s) ts
gone_are s ts = ap templates_of (filter_rows (template_row s.entries) (leaves s.now) (is_over s) ts (λ t. refl)) ∙ templates_of_rows s.entries (filter (is_over s) ts)

-- THE SERVERS THAT THEY NAMED

names_step : (s : State) (id : DestId) (t : Template) (over held : Bool) (gone kept ts : List Template) → template_count id gone + template_count id kept ≡ template_count id ts
    → template_count id (cond over (t ∷ gone) gone) + template_count id (cons_option (cond over None (cond held (Some (held_longer s.now t)) (Some t))) kept) ≡ template_count id (t ∷ ts)
names_step s id t true held gone kept ts rest =
    omega (arith, rest, count_cons (λ (x : Template). dest_eq x.server id) t gone, count_cons (λ (x : Template). dest_eq x.server id) t ts)
names_step s id t false true gone kept ts rest =
    omega (arith, rest, count_cons (λ (x : Template). dest_eq x.server id) (held_longer s.now t) kept, count_cons (λ (x : Template). dest_eq x.server id) t ts)
names_step s id t false false gone kept ts rest =
    omega (arith, rest, count_cons (λ (x : Template). dest_eq x.server id) t kept, count_cons (λ (x : Template). dest_eq x.server id) t ts)

-- those that leave and those that stay are all
names_parts : (s : State) (id : DestId) (ts : List Template) → template_count id (filter (is_over s) ts) + template_count id (filter_map (reaped_template s) ts) ≡ template_count id ts
names_parts s id [] = refl
names_parts s id (t ∷ ts) = names_step s id t (is_over s t) (is_held s t) (filter (is_over s) ts) (filter_map (reaped_template s) ts) ts (names_parts s id ts)

abbrev made : List Entry → ℕ → Dest → DestRow
made es n d = record { dest = d; active = active d.id es; inactive = inactive d.id es; templates = n }

one_step : (es : List Entry) (d : Dest) (here : Bool) (n : ℕ) → cond here (made es (n - 1) d) (made es n d) ≡ made es (n - one_if here) d
one_step es d true n = refl
one_step es d false n = ap (λ k. made es k d) (let same : n ≡ n - 0 = omega arith in same)

unholds_all : (es : List Entry) (d : Dest) (gone : List Template) (n : ℕ) → unholds_row gone (made es n d) ≡ made es (n - template_count d.id gone) d
unholds_all es d [] n = ap (λ k. made es k d) (let same : n ≡ n - 0 = omega arith in same)
unholds_all es d (t ∷ gone) n =
    ap (unholds_row gone) (one_step es d (dest_eq t.server d.id) n)
    ∙ unholds_all es d gone (n - one_if (dest_eq t.server d.id))
    ∙ ap (λ k. made es k d) (let counts = count_cons (λ (x : Template). dest_eq x.server d.id) t gone in let same : n - one_if (dest_eq t.server d.id) - template_count d.id gone ≡ n - template_count d.id (t ∷ gone) = omega (arith, counts) in same)

unheld_all : (s : State) (ds : List Dest) → map (unholds_row (filter (is_over s) s.templates)) (map (row_of s.entries s.templates) ds) ≡ map (row_of s.entries (reaped_templates s)) ds
unheld_all s ds = each_row (unholds_row (filter (is_over s) s.templates)) (row_of s.entries s.templates) (row_of s.entries (reaped_templates s)) ds (λ d.
    unholds_all s.entries d (filter (is_over s) s.templates) (template_count d.id s.templates)
    ∙ ap (λ k. made s.entries k d) (let parts = names_parts s d.id s.templates in let same : template_count d.id s.templates - template_count d.id (filter (is_over s) s.templates) ≡ template_count d.id (reaped_templates s) = omega (arith, parts) in same))

at_step : (P : DestRow → Type 0) (row : DestRow) (o : Option DestRow) (here : Bool) → (here ≡ true → P row) → IfSome o P → IfSome (cond here (Some row) o) P
at_step P row o true each rest = each refl
at_step P row o false each rest = rest

row_in : (P : DestRow → Type 0) (es : List Entry) (n : Dest → ℕ) (id : DestId) (ds : List Dest) → ((d : Dest) → has_dest_id id d ≡ true → P (made es (n d) d)) → IfSome (row_at id (map (λ d. made es (n d) d) ds)) P
row_in P es n id [] each = tt
row_in P es n id (d ∷ ds) each = at_step P (made es (n d) d) (row_at id (map (λ x. made es (n x) x) ds)) (has_dest_id id d) (each d) (row_in P es n id ds each)

can_all : (es : List Entry) (gone : List Template) (n : Dest → ℕ) (ds : List Dest) → ((d : Dest) → template_count d.id gone ≤ n d) → CanUnhold gone (map (λ d. made es (n d) d) ds)
can_all es [] n ds enough = tt
can_all es (t ∷ gone) n ds enough = (
  λ id names. row_in (λ row. 0 < row.templates) es n id ds (λ d here. omega (arith, enough d, count_cons (λ (x : Template). dest_eq x.server d.id) t gone, ap one_if (here_by t.server id d names ∙ here))),
  subst (CanUnhold gone) (sym (each_row (unhold_one t.server) (λ d. made es (n d) d) (λ d. made es (n d - one_if (dest_eq t.server d.id)) d) ds (λ d. one_step es d (dest_eq t.server d.id) (n d))))
      (can_all es gone (λ d. n d - one_if (dest_eq t.server d.id)) ds (λ d. omega (arith, enough d, count_cons (λ (x : Template). dest_eq x.server d.id) t gone))),
)

-- SERVERS THAT NOTHING NAMES

none_named : (a i t : ℕ) → ((a == 0) && (i == 0) && (t == 0)) ≡ (a + i + t == 0)
none_named a i t = grind (arith, nat_tests)

released_same : (es : List Entry) (ts : List Template) (d : Dest) → is_row_released (row_of es ts d) ≡ is_released es ts d
released_same es ts d = ap (λ b. not d.live && b) (none_named (active d.id es) (inactive d.id es) (template_count d.id ts))

-- THE DESK

fewer_step : {X : Type 0} (o : Option X) (n : ℕ) (xs : List X) → length xs ≤ n → length (cons_option o xs) ≤ n + 1
fewer_step None n xs few = omega (arith, few)
fewer_step (Some x) n xs few = omega (arith, few)

fewer : {X : Type 0} (h : X → Option X) (xs : List X) → length (filter_map h xs) ≤ length xs
fewer h [] = omega arith
fewer h (x ∷ xs) = let step = fewer_step (h x) (length xs) (filter_map h xs) (fewer h xs) in omega (arith, step)

id_step : (s : State) (t y : Template) (over held : Bool) → cond over None (cond held (Some (held_longer s.now t)) (Some t)) ≡ Some y → y.id ≡ t.id
id_step s t y true held is = absurd cc
id_step s t y false true is = let same : held_longer s.now t ≡ y = cc in ap (λ (x : Template). x.id) (sym same)
id_step s t y false false is = let same : t ≡ y = cc in ap (λ (x : Template). x.id) (sym same)

reaped_id : (s : State) (t y : Template) → reaped_template s t ≡ Some y → y.id ≡ t.id
reaped_id s t y is = id_step s t y (is_over s t) (is_held s t) is

reap_few : (s : State) → AreFew s → AreFew (restated s (reap s).1.dests (reaped_templates s) s.next_template)
reap_few s few = record {
  entries_apart = few.entries_apart;
  dests_apart = distinct_filter nat_eq (λ (d : Dest). d.id.0) (λ (d : Dest). not (is_released s.entries (reaped_templates s) d)) s.dests few.dests_apart;
  templates_apart = distinct_filter_map nat_eq (λ (t : Template). t.id.0) (reaped_template s) s.templates (λ t y is. ap (λ (id : TemplateId). id.0) (reaped_id s t y is)) few.templates_apart;
  below = few.below;
  templates_below = all_filter_map (λ (t : Template). t.id.0 < s.next_template) (λ (t : Template). t.id.0 < s.next_template) (reaped_template s) s.templates (λ t y is small. omega (arith, small, ap (λ (id : TemplateId). id.0) (reaped_id s t y is))) few.templates_below;
  few = few.few;
  few_templates = omega (arith, few.few_templates, fewer (reaped_template s) s.templates);
  young = few.young;
  young_templates = few.young_templates;
}

pub can_unhold : (whole : State) (d : Desk) (gone : List Template) → IsSound whole d → gone ≡ templates_of (filter (leaves d.moment) d.templates.rows) → CanUnhold gone d.dests.rows
can_unhold whole d gone sound is =
    let s = state_of whole d in
    let are : gone ≡ filter (is_over s) s.templates = is ∙ ap (λ (rows : List TemplateRow). templates_of (filter (leaves d.moment) rows)) sound.totals.controls ∙ gone_are s s.templates in
    subst (λ (ts : List Template). CanUnhold ts d.dests.rows) (sym are)
    (subst (CanUnhold (filter (is_over s) s.templates)) (sym sound.totals.servers)
    (can_all s.entries (filter (is_over s) s.templates) (λ x. template_count x.id s.templates) s.dests (λ x. omega (arith, names_parts s x.id s.templates))))

-- what the calls have made of the tables
pub record ReapedDesk (d : Desk) (held : DestsSeen) (dests : DestsSeen) (templates : TemplatesSeen) (gone : List Template) : Type 0 where
  pub gone_are : gone ≡ templates_of (filter (leaves d.moment) d.templates.rows)
  pub templates_are : templates.rows ≡ after_due d.moment d.templates.rows
  pub held_are : held ≡ with_rows d.dests (map (unholds_row gone) d.dests.rows)
  pub dests_are : dests ≡ with_rows held (without is_row_released held.rows)

held_rows_are : (whole : State) (d : Desk) (held dests : DestsSeen) (templates : TemplatesSeen) (gone : List Template) → IsSound whole d → ReapedDesk d held dests templates gone
    → held ≡ with_rows d.dests (map (row_of (state_of whole d).entries (reaped_templates (state_of whole d))) (state_of whole d).dests)
held_rows_are whole d held dests templates gone sound made =
    let s = state_of whole d in
    let are : gone ≡ filter (is_over s) s.templates = made.gone_are ∙ ap (λ (rows : List TemplateRow). templates_of (filter (leaves d.moment) rows)) sound.totals.controls ∙ gone_are s s.templates in
    made.held_are ∙ ap (with_rows d.dests) (ap (λ (ts : List Template). map (unholds_row ts) d.dests.rows) are ∙ ap (map (unholds_row (filter (is_over s) s.templates))) sound.totals.servers ∙ unheld_all s s.dests)

reap_retabled : (whole : State) (d : Desk) (held dests : DestsSeen) (templates : TemplatesSeen) (gone : List Template) → IsSound whole d → ReapedDesk d held dests templates gone
    → Retabled (state_of whole d) d dests templates (reap (state_of whole d)).1.dests (reaped_templates (state_of whole d))
reap_retabled whole d held dests templates gone sound made =
    let s = state_of whole d in
    record {
      servers = made.dests_are
          ∙ ap (λ (seen : DestsSeen). with_rows seen (without is_row_released seen.rows)) (held_rows_are whole d held dests templates gone sound made)
          ∙ ap (with_rows d.dests) (filter_rows (row_of s.entries (reaped_templates s)) (λ row. not (is_row_released row)) (λ x. not (is_released s.entries (reaped_templates s) x)) s.dests (λ x. ap not (released_same s.entries (reaped_templates s) x)));
      controls = made.templates_are ∙ ap (after_due d.moment) sound.totals.controls ∙ due_rows s s.templates;
    }

pub reap_sound : (whole : State) (d : Desk) (held dests : DestsSeen) (templates : TemplatesSeen) (gone : List Template) → IsSound whole d → ReapedDesk d held dests templates gone → IsSound whole (retabled dests templates d.next_template d)
reap_sound whole d held dests templates gone sound made =
    let s = state_of whole d in
    retabled_sound whole d dests templates d.next_template (reap s).1.dests (reaped_templates s) sound (omega arith) (reap_retabled whole d held dests templates gone sound made) (reap_few s sound.few)

pub reap_state : (whole : State) (d : Desk) (held dests : DestsSeen) (templates : TemplatesSeen) (gone : List Template) → IsSound whole d → ReapedDesk d held dests templates gone → state_of whole (retabled dests templates d.next_template d) ≡ (reap (state_of whole d)).1
reap_state whole d held dests templates gone sound made =
    let s = state_of whole d in
    retabled_state whole d dests templates d.next_template (reap s).1.dests (reaped_templates s) (reap_retabled whole d held dests templates gone sound made)

-- THE REPLY

abbrev answer : ℕ → ℕ → ℕ → State → Reply × State
answer gone renewed servers s = (reply.Reaped gone renewed servers, s)

pub record Counted (d : Desk) (held : DestsSeen) (gone : List Template) (left renewed servers : ℕ) : Type 0 where
  pub left_is : left ≡ length gone
  pub renewed_is : renewed ≡ count_by (is_renewed d.moment) d.templates.rows
  pub servers_is : servers ≡ count_by is_row_released held.rows

pub reap_pair : (whole : State) (d : Desk) (held dests : DestsSeen) (templates : TemplatesSeen) (gone : List Template) (left renewed servers : ℕ) → IsSound whole d → ReapedDesk d held dests templates gone → Counted d held gone left renewed servers
    → answer left renewed servers (state_of whole (retabled dests templates d.next_template d)) ≡ reap (state_of whole d)
reap_pair whole d held dests templates gone left renewed servers sound made counted =
    let s = state_of whole d in
    let are : gone ≡ filter (is_over s) s.templates = made.gone_are ∙ ap (λ (rows : List TemplateRow). templates_of (filter (leaves d.moment) rows)) sound.totals.controls ∙ gone_are s s.templates in
    let lefts : left ≡ count_by (is_over s) s.templates = counted.left_is ∙ ap (λ (ts : List Template). length ts) are ∙ length-filter (is_over s) s.templates in
    let renews : renewed ≡ count_by (is_held s) s.templates = counted.renewed_is ∙ ap (count_by (is_renewed d.moment)) sound.totals.controls ∙ count_rows (template_row s.entries) (is_renewed d.moment) (is_held s) s.templates (λ t. refl) in
    let frees : servers ≡ count_by (is_released s.entries (reaped_templates s)) s.dests = counted.servers_is ∙ ap (λ (seen : DestsSeen). count_by is_row_released seen.rows) (held_rows_are whole d held dests templates gone sound made)
    ∙ count_rows (row_of s.entries (reaped_templates s)) is_row_released (is_released s.entries (reaped_templates s)) s.dests (λ x. released_same s.entries (reaped_templates s) x) in
    ap (λ n. answer n renewed servers (state_of whole (retabled dests templates d.next_template d))) lefts
    ∙ ap (λ n. answer (count_by (is_over s) s.templates) n servers (state_of whole (retabled dests templates d.next_template d))) renews
    ∙ ap (λ n. answer (count_by (is_over s) s.templates) (count_by (is_held s) s.templates) n (state_of whole (retabled dests templates d.next_template d))) frees
    ∙ ap (answer (count_by (is_over s) s.templates) (count_by (is_held s) s.templates) (count_by (is_released s.entries (reaped_templates s)) s.dests)) (reap_state whole d held dests templates gone sound made)
