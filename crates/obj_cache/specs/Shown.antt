-- The state that a cache shows. This project's own rule.
use Rattle.std.specs.Prelude.{◌≡◌, ℕ, length}
use Rattle.gm_cache.specs.State.{CacheState}
use Rattle.obj_cache.specs.declared.cache.Cache.{Cache}

-- how many packets each of its two queues has places for
abbrev pub places : ℕ
places = 512

-- so many packets at most a cache may hold as it is woken
abbrev pub most_held : ℕ
most_held = 500

abbrev pub shown : Cache → CacheState
shown c = record {
  common = record { object = c.object.0; line = c.lines.line; ram = c.ram; timing = c.timing; draining = c.draining };
  source = c.source;
  sets = length c.lines.lines;
  ways = c.lines.ways;
  mshrs = c.registers.count;
  targets = c.registers.places;
  writeq = c.writeq;
  latency = c.latency;
  lines = c.lines.lines;
  registers = c.registers.used;
  answers = c.answers.flow;
  leaving = c.leaving.flow;
  waiter = c.waiter;
}

-- its number and the size of its lines stay
pub record StaysAs (old new : Cache) : Type 0 where
  pub object : new.object.0 ≡ old.object.0
  pub line : new.lines.line ≡ old.lines.line
