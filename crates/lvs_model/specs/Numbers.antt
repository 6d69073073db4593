-- The bucket and the worker of a connection, by its protocol's number, client address and client port (this project's profile).
use Rattle.std.specs.Prelude.{ℕ, ◌+◌, ◌*◌, ◌/◌, ◌%◌, ◌^◌}
use Rattle.lvs_types.specs.declared.addr.Addr.{Addr}

-- a number below 2 ^ 32 in which the client's bits are mixed: by a prime near 2 ^ 32 divided by the golden ratio
abbrev pub mix : ℕ → Addr → ℕ → ℕ
mix proto client port = ((client.number + 40503 * port + proto) % 2 ^ 32 * 2654435761) % 2 ^ 32

-- which of so many buckets: by the highest eight bits
abbrev pub bucket_of : ℕ → Addr → ℕ → ℕ → ℕ
bucket_of proto client port buckets = mix proto client port / 2 ^ 24 % buckets

-- which of so many workers: by the next eight bits
abbrev pub worker_of : ℕ → Addr → ℕ → ℕ → ℕ
worker_of proto client port workers = mix proto client port / 2 ^ 16 % 256 % workers
