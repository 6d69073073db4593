-- Lines of sysctls are printed as they are read.
use Rattle.std.proofs.Common.{◌≡◌, ℕ, ◌<◌, ◌≤◌, Bool, true, false, cond, ◌||◌, ◌==◌, List, [], ◌∷◌, Option, Some, None, Result, Ok, Err, refl, subst, ap, ◌∙◌, arith, lit<, nat_lt}
use Rattle.std.specs.Prelude.{ok_or}
use Rattle.std.specs.Fmt.{decimal}
use Rattle.lvs_types.specs.declared.settings.Setting.{Setting}
use Rattle.lvs_types.specs.declared.settings.Setting.TheVariants.{ExpireNodest, ExpireQuiescent, SloppyTcp, ReuseMode, SyncThreshold, SyncVersion}
use Rattle.lvs_types.specs.declared.script.SettingCause.{SettingCause}
use Rattle.lvs_types.specs.declared.script.SettingCause.TheVariants.{UnknownName, BadValue}
use Rattle.lvs_types.specs.declared.script.ScriptLine.{ScriptLine}
use Rattle.lvs_types.specs.declared.script.ScriptLine.TheVariants as line
use Rattle.lvs_model.specs.declared.admin.SysctlName.{SysctlName}
use Rattle.lvs_model.specs.declared.admin.SysctlName.TheVariants as sysctl
use Rattle.lvs_model.specs.declared.script.LineName.TheVariants as name
use Rattle.lvs_model.specs.Refusals.{◌>>=◌}
use Rattle.lvs_model.specs.Decimals.{number_between}
use Rattle.lvs_model.specs.SysctlWords.{sysctl_of, one_value, threshold_of, two_values, setting_read, setting_of_words}
use Rattle.lvs_model.specs.Scripts.{line_of_setting, round_line}
use Rattle.lvs_listing.proofs.Numerals.{number_between-decimal}
use Rattle.lvs_listing.proofs.Wording.{AreWords, number_is_word}
use Rattle.lvs_laws.proofs.SaveNumbers.{between}
use Rattle.lvs_laws.proofs.SaveWords.{then_ok}
use Rattle.lvs_tidy.specs.CommandWords.{setting_words}
use Rattle.lvs_tidy.proofs.Printed.{IsPrinted}

-- the values that words can say
abbrev IsSetting : Setting → Type 0
IsSetting (ExpireNodest value) = value ≤ 2147483647
IsSetting (ExpireQuiescent value) = value ≤ 2147483647
IsSetting (SloppyTcp value) = value ≤ 2147483647
IsSetting (ReuseMode value) = value ≤ 1
IsSetting (SyncThreshold threshold period) = (threshold ≤ 2147483647) × (period ≤ 2147483647) × (((period == 0) || nat_lt threshold period) ≡ true)
IsSetting (SyncVersion value) = value ≤ 1

setting_is : (made setting : Setting) → ◌≡◌ {A = Result Setting SettingCause} (Ok made) (Ok setting) → IsSetting made → IsSetting setting
setting_is made setting e is = let same : made ≡ setting = cc in subst (λ (x : Setting). IsSetting x) same is

given_some : (o : Option ℕ) (n : ℕ) → ok_or o BadValue ≡ Ok n → o ≡ Some n
given_some None n e = absurd cc
given_some (Some m) n e = cc

-- WHAT IS READ

value_said : (limit : ℕ) (word : List ℕ) (made : ℕ → Setting) (setting : Setting) → (ok_or (number_between 0 limit word) BadValue >>= (λ (n : ℕ). Ok (made n))) ≡ Ok setting → ((n : ℕ) → n ≤ limit → IsSetting (made n)) → IsSetting setting
value_said limit word made setting e each =
    let value = then_ok (ok_or (number_between 0 limit word) BadValue) (λ (n : ℕ). let r : Result Setting SettingCause = Ok (made n) in r) setting e in
    setting_is (made value.0) setting value.2 (each value.0 (between 0 limit word value.0 (given_some (number_between 0 limit word) value.0 value.1)).1)

one_said : (known : SysctlName) (word : List ℕ) (setting : Setting) → one_value known word ≡ Ok setting → IsSetting setting
one_said sysctl.ExpireNodest word setting e = value_said 2147483647 word ExpireNodest setting e (λ n low. low)
one_said sysctl.ExpireQuiescent word setting e = value_said 2147483647 word ExpireQuiescent setting e (λ n low. low)
one_said sysctl.SloppyTcp word setting e = value_said 2147483647 word SloppyTcp setting e (λ n low. low)
one_said sysctl.ReuseMode word setting e = value_said 1 word ReuseMode setting e (λ n low. low)
one_said sysctl.SyncVersion word setting e = value_said 1 word SyncVersion setting e (λ n low. low)
one_said sysctl.SyncThreshold word setting e = absurd cc

period_by : (b : Bool) (made setting : Setting) → cond b (Ok made) (Err BadValue) ≡ Ok setting → (b ≡ true) × (made ≡ setting)
period_by true made setting e = (refl, cc)
period_by false made setting e = absurd cc

two_said : (known : SysctlName) (first second : List ℕ) (setting : Setting) → two_values known first second ≡ Ok setting → IsSetting setting
two_said sysctl.ExpireNodest first second setting e = absurd cc
two_said sysctl.ExpireQuiescent first second setting e = absurd cc
two_said sysctl.SloppyTcp first second setting e = absurd cc
two_said sysctl.ReuseMode first second setting e = absurd cc
two_said sysctl.SyncVersion first second setting e = absurd cc
two_said sysctl.SyncThreshold first second setting e =
    let threshold = then_ok (ok_or (number_between 0 2147483647 first) BadValue) (λ (t : ℕ). ok_or (number_between 0 2147483647 second) BadValue >>= (λ (p : ℕ). threshold_of t p)) setting e in
    let period = then_ok (ok_or (number_between 0 2147483647 second) BadValue) (λ (p : ℕ). threshold_of threshold.0 p) setting threshold.2 in
    let both = period_by ((period.0 == 0) || nat_lt threshold.0 period.0) (SyncThreshold threshold.0 period.0) setting period.2 in
    subst (λ (x : Setting). IsSetting x) both.1 (
      (between 0 2147483647 first threshold.0 (given_some (number_between 0 2147483647 first) threshold.0 threshold.1)).1,
      (between 0 2147483647 second period.0 (given_some (number_between 0 2147483647 second) period.0 period.1)).1,
      both.0,
    )

values_said : (known : SysctlName) (values : List (List ℕ)) (setting : Setting) → setting_read known values ≡ Ok setting → IsSetting setting
values_said known [] setting e = absurd cc
values_said known (value ∷ []) setting e = one_said known value setting e
values_said known (first ∷ second ∷ []) setting e = two_said known first second setting e
values_said known (first ∷ second ∷ third ∷ more) setting e = absurd cc

words_said : (words : List (List ℕ)) (setting : Setting) → setting_of_words words ≡ Ok setting → IsSetting setting
words_said [] setting e = absurd cc
words_said (first ∷ values) setting e =
    let known = then_ok (ok_or (sysctl_of first) UnknownName) (λ (k : SysctlName). setting_read k values) setting e in
    values_said known.0 values setting known.2

-- WHAT IS PRINTED

value_again : (limit n : ℕ) (made : ℕ → Setting) → n ≤ limit → limit < 2147483648 → (ok_or (number_between 0 limit (decimal n)) BadValue >>= (λ (k : ℕ). Ok (made k))) ≡ Ok (made n)
value_again limit n made low bounded =
    ap (λ (o : Option ℕ). ok_or o BadValue >>= (λ (k : ℕ). let r : Result Setting SettingCause = Ok (made k) in r)) (number_between-decimal 0 limit n (omega arith) low (omega arith))

again : (setting : Setting) → IsSetting setting → setting_of_words (setting_words setting) ≡ Ok setting
again (ExpireNodest value) low = value_again 2147483647 value ExpireNodest low (lit< tt)
again (ExpireQuiescent value) low = value_again 2147483647 value ExpireQuiescent low (lit< tt)
again (SloppyTcp value) low = value_again 2147483647 value SloppyTcp low (lit< tt)
again (ReuseMode value) low = value_again 1 value ReuseMode low (lit< tt)
again (SyncVersion value) low = value_again 1 value SyncVersion low (lit< tt)
again (SyncThreshold threshold period) low =
    ap (λ (o : Option ℕ). ok_or o BadValue >>= (λ (t : ℕ). ok_or (number_between 0 2147483647 (decimal period)) BadValue >>= (λ (p : ℕ). threshold_of t p))) (number_between-decimal 0 2147483647 threshold (omega arith) low.0 (lit< tt))
    ∙ ap (λ (o : Option ℕ). ok_or o BadValue >>= (λ (p : ℕ). threshold_of threshold p)) (number_between-decimal 0 2147483647 period (omega arith) low.1 (lit< tt))
    ∙ ap (λ (b : Bool). let r : Result Setting SettingCause = cond b (Ok (SyncThreshold threshold period)) (Err BadValue) in r) low.2

are_words : (setting : Setting) → IsSetting setting → AreWords (setting_words setting)
are_words (ExpireNodest value) low = (record { full = refl; graphic = refl; whole = refl }, (number_is_word value (omega arith), tt))
are_words (ExpireQuiescent value) low = (record { full = refl; graphic = refl; whole = refl }, (number_is_word value (omega arith), tt))
are_words (SloppyTcp value) low = (record { full = refl; graphic = refl; whole = refl }, (number_is_word value (omega arith), tt))
are_words (ReuseMode value) low = (record { full = refl; graphic = refl; whole = refl }, (number_is_word value (omega arith), tt))
are_words (SyncVersion value) low = (record { full = refl; graphic = refl; whole = refl }, (number_is_word value (omega arith), tt))
are_words (SyncThreshold threshold period) low =
    let first : threshold ≤ 2147483647 = low.0 in
    let second : period ≤ 2147483647 = low.1 in
    (record { full = refl; graphic = refl; whole = refl }, (number_is_word threshold (omega arith), (number_is_word period (omega arith), tt)))

made : (setting : Setting) → IsSetting setting → IsPrinted (line.Set setting)
made setting is = record { words = are_words setting is; read = ap line_of_setting (again setting is) }

line_by : (r : Result Setting SettingCause) (l : ScriptLine) → line_of_setting r ≡ Ok l → (setting : Setting) × (r ≡ Ok setting) × (line.Set setting ≡ l)
line_by (Ok setting) l e = (setting, refl, cc)
line_by (Err why) l e = absurd cc

pub sysctl_printed : (words : List (List ℕ)) (l : ScriptLine) → round_line name.Sysctl words ≡ Ok l → IsPrinted l
sysctl_printed words l e =
    let read = line_by (setting_of_words words) l e in
    subst (λ (x : ScriptLine). IsPrinted x) read.2 (made read.0 (words_said words read.0 read.1))
