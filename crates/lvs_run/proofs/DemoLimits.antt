-- The script of a demonstration is within the limits.
use Rattle.std.proofs.Common.{◌≡◌, ℕ, suc, ◌+◌, ◌≤◌, List, [], ◌∷◌, length, map, refl, sym, ◌∙◌, ap, subst, arith}
use Rattle.std.specs.List.{flat_map}
use Rattle.lvs_types.specs.declared.script.Script.{Script}
use Rattle.lvs_model.specs.Generated.{generated, demo_edits, client_line, client_lines, syn_flag, ack_flag}
use Rattle.lvs_model.specs.Plans.{items_of_line, numbers_from}
use Rattle.lvs_model.specs.ScriptLimits.{IsWithinLimits}
use Rattle.lvs_run.proofs.PlanLemmas.{numbers_count}

edits_count : length (flat_map items_of_line demo_edits) ≡ 5
edits_count = refl

lines_count : (flags : ℕ) (numbers : List ℕ) → length (flat_map items_of_line (map (client_line flags) numbers)) ≡ length numbers
lines_count flags [] = refl
lines_count flags (number ∷ numbers) = ap (λ (n : ℕ). suc n) (lines_count flags numbers)

clients_count : (flags clients : ℕ) → length (flat_map items_of_line (client_lines flags clients)) ≡ clients
clients_count flags clients = lines_count flags (numbers_from 0 clients) ∙ numbers_count 0 clients

generated_within : (clients : ℕ) → clients ≤ 100000 → IsWithinLimits (generated clients).rounds
generated_within clients few = record {
  moments = (omega arith, (omega arith, (omega arith, tt)));
  items = omega (arith, edits_count, clients_count syn_flag clients, clients_count ack_flag clients, few);
  few = omega arith;
}

pub demo_within : (clients : ℕ) (script : Script) → clients ≤ 100000 → script ≡ generated clients → IsWithinLimits script.rounds
demo_within clients script few made = subst (λ (s : Script). IsWithinLimits s.rounds) (sym made) (generated_within clients few)
