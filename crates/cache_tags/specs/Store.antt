-- How a cache is stored: its sets, and what picks one. This project's own rules.
use Rattle.std.specs.Prelude.{ℕ, ◌≡◌, ◌+◌, ◌^◌, ◌<◌, ◌≤◌, List, length, map, All}
use Rattle.cache_tags.specs.Held.{CacheSet}
use Rattle.cache_tags.specs.Kept.{Kept, IsSoundCache}

-- the cache that has these sets
abbrev pub stored_cache : ℕ → ℕ → List CacheSet → Kept
stored_cache ways size sets = record { ways = ways; line = size; sets = map (λ s. s.held) sets }

-- the cache is sound, its sets are as large as it says, and shift and mask pick the set of an address
pub record IsStoredCache (ways size shift mask : ℕ) (sets : List CacheSet) : Type 0 where
  pub some : 0 < ways
  pub bits : 2 ^ shift ≡ size
  pub low : shift ≤ 6
  pub power : (k : ℕ) × (length sets ≡ 2 ^ k)
  pub last : mask + 1 ≡ length sets
  pub few : length sets < 2 ^ 32
  pub alike : All (λ s. (s.ways ≡ ways) × (s.line ≡ size)) sets
  pub sound : IsSoundCache (stored_cache ways size sets)
