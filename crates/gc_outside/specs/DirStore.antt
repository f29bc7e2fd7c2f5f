-- A store over the files of the system. Source: this project's own rule.
use Rattle.std.specs.Prelude.{ℕ, List, [], Option, option_map}

-- the file whose put is open, and how many calls failed
pub record DirStoreState (F : Type 0) : Type 0 where
  pub file : Option F
  pub faults : ℕ

-- a put is open where a file is, and which file it is isn't told
abbrev pub open_file : {F : Type 0} → Option F → Option (List ℕ)
open_file file = option_map (λ _. []) file
