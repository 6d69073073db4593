-- The limits of inputs, scripts and words (this project's profile).
use Rattle.std.specs.Prelude.{ℕ}

-- bytes of a whole input, with all its parts
abbrev pub max_input : ℕ
max_input = 16777216

-- rounds of a script
abbrev pub max_rounds : ℕ
max_rounds = 4096

-- items of a script, those of the clock aside
abbrev pub max_items : ℕ
max_items = 1048576

-- workers of a run
abbrev pub max_workers : ℕ
max_workers = 16

-- buckets of a run
abbrev pub max_buckets : ℕ
max_buckets = 256

-- clients of a demonstration
abbrev pub max_clients : ℕ
max_clients = 100000

-- seconds of a round that is made of a capture: a day
abbrev pub max_capture_step : ℕ
max_capture_step = 86400

-- digits of the counts of a pair
abbrev pub max_counts : ℕ
max_counts = 64

-- the greatest moment, in seconds
abbrev pub max_moment : ℕ
max_moment = 4294967295
