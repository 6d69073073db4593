-- The rounds of a capture as they are made, packet by packet.
use Rattle.std.specs.Prelude.{ℕ, ◌+◌, Bool, true, List, [], ◌∷◌, ◌++◌, Option, Some, None, Result, Ok, Err, if◌then◌else◌, nat_lt}
use Rattle.lvs_types.specs.Limits.{max_items, max_rounds}
use Rattle.lvs_types.specs.declared.addr.Addr.{Addr}
use Rattle.lvs_types.specs.declared.capture.CaptureCause.TheVariants.{TooManyRounds, TooManyItems}
use Rattle.lvs_types.specs.declared.script.Round.{Round}
use Rattle.lvs_types.specs.declared.script.ScriptLine.{ScriptLine}
use Rattle.lvs_model.specs.declared.capture.BadCapture.{BadCapture}
use Rattle.lvs_model.specs.CaptureFiles.{refused_at}
use Rattle.lvs_model.specs.Captured.{CapturedPacket, packet_line}
use Rattle.lvs_model.specs.Refusals.{◌>>=◌}
use Rattle.lvs_model.specs.Scripts.{open_round}

-- what was made so far
pub record Made : Type 0 where
  -- the rounds before the one that is open
  pub closed : List Round
  -- the moment of the round that is open
  pub moment : Option ℕ
  -- the lines of the round that is open
  pub lines : List ScriptLine
  -- how many rounds and items there are, those of the script among them
  pub rounds : ℕ
  pub items : ℕ

-- nothing was made behind so many rounds and items
abbrev pub none_made : ℕ → ℕ → Made
none_made rounds items = record { closed = []; moment = None; lines = []; rounds = rounds; items = items }

-- all rounds so far
abbrev pub rounds_made : Made → List Round
rounds_made m = m.closed ++ open_round m.moment m.lines

-- a packet of this moment begins a round
abbrev pub begins : ℕ → Option ℕ → Bool
begins moment None = true
begins moment (Some before) = nat_lt before moment

-- a round begins
abbrev pub with_round : ℕ → Made → Made
with_round moment m = record m { closed = rounds_made m; moment = Some moment; lines = []; rounds = m.rounds + 1 }

-- a round begins, where the packet begins one
abbrev pub with_moment : ℕ → Made → Made
with_moment moment m = if begins moment m.moment then with_round moment m else m

-- one more line in the round that is open
abbrev pub with_line : ScriptLine → Made → Made
with_line l m = record m { lines = m.lines ++ l ∷ []; items = m.items + 1 }

-- neither rounds nor items are past their limits
abbrev pub checked : ℕ → Made → Result Made BadCapture
checked at m =
    if nat_lt max_rounds m.rounds then refused_at at TooManyRounds
    else if nat_lt max_items m.items then refused_at at TooManyItems
    else Ok m

-- one more packet, of the record of that number
abbrev pub with_packet : ℕ → ℕ → ScriptLine → Made → Result Made BadCapture
with_packet at moment l m = checked at (with_line l (with_moment moment m))

-- packets one after the other
abbrev pub with_packets : Addr → ℕ → List CapturedPacket → Made → Result Made BadCapture
with_packets net bits [] m = Ok m
with_packets net bits (packet ∷ packets) m = do
  next ← with_packet packet.at packet.moment (packet_line net bits packet.bytes) m
  with_packets net bits packets next
