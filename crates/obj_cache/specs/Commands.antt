-- What is asked of a cache beside its wakes: to drain and go on, to change its mode, to tell its lines, and to forget them. This project's
-- own rule.
use Rattle.std.specs.Prelude.{ℕ, Bool, true, false, not, ◌&&◌, List, [], ◌∷◌, replicate, slice_get, slice_index_or, Option}
use Rattle.std.specs.Option.{option_map}
use Rattle.cache_tags.specs.Line.{Line}
use Rattle.gm_cache.specs.State.{CacheState, Register}
use Rattle.gm_model.specs.Command.{CacheLine}
use Rattle.gm_model.specs.Server.{is_empty}

abbrev pub with_timing : Bool → CacheState → CacheState
with_timing timing s = record s { common = record s.common { timing = timing } }

abbrev pub with_draining : Bool → CacheState → CacheState
with_draining draining s = record s { common = record s.common { draining = draining } }

abbrev pub none_used : List Register → Bool
none_used [] = true
none_used (r ∷ rs) = false

-- no packet is in its queues, no line is on its way to it, and nobody waits
abbrev pub is_cache_drained : CacheState → Bool
is_cache_drained s = is_empty s.answers.items && is_empty s.leaving.items && none_used s.registers && not s.waiter

-- all lines are forgotten
abbrev pub cache_invalidated : CacheState → CacheState
cache_invalidated s = record s { lines = replicate s.sets [] }

-- a line of a set, as it is told
abbrev pub told : ℕ → Line → CacheLine
told set l = record { set = set; address = l.address; dirty = l.dirty; bytes = l.bytes }

-- the n-th line of a set, the most recently used first
abbrev pub nth_line : CacheState → ℕ → ℕ → Option CacheLine
nth_line s set n = option_map (told set) (slice_get (slice_index_or s.lines set []) n)
