-- The words of the command line, those after the program's name. Source: this project's own rule.
use Rattle.std.specs.Prelude.{ℕ, nat_eq, nat_le, if◌then◌else◌, List, [], ◌∷◌, Option, Some, None, option_map, codes, decimal}
use Rattle.std.specs.Cmp.Lexicographic.{pointwise}
use Rattle.std.specs.Str.Parse.{digits_value}

-- what the words `flat IMAGE COUNT` name: the image's file, and the most steps that are made
pub record FlatRequest : Type 0 where
  pub image : List ℕ
  pub count : ℕ

-- the number that a text spells in decimal: the one whose decimal spelling it is
abbrev pub spelled_number : List ℕ → Option ℕ
spelled_number text =
    let n : ℕ = digits_value 10 text
    in if pointwise nat_eq text (decimal n) then Some n else None

-- the most steps that may be asked for
abbrev pub most_steps : ℕ
most_steps = 1000000000

-- a number of steps that is allowed
abbrev pub allowed_count : Option ℕ → Option ℕ
allowed_count None = None
allowed_count (Some n) = if nat_le n most_steps then Some n else None

-- the words are `flat`, a name, and a number of steps
abbrev pub flat_request : List (List ℕ) → Option FlatRequest
flat_request (form ∷ image ∷ count ∷ []) =
    if pointwise nat_eq form (codes "flat")
    then option_map (λ n. record { image = image; count = n }) (allowed_count (spelled_number count))
    else None
flat_request _ = None

-- what the words `run CONFIG IMAGE SCRIPT` name: three files
pub record RunRequest : Type 0 where
  pub config : List ℕ
  pub image : List ℕ
  pub script : List ℕ

-- the words are `run` and three names
abbrev pub run_request : List (List ℕ) → Option RunRequest
run_request (form ∷ config ∷ image ∷ script ∷ []) =
    if pointwise nat_eq form (codes "run") then Some (record { config = config; image = image; script = script }) else None
run_request _ = None

-- what the words `asm SOURCE IMAGE` name: two files
pub record AssemblyRequest : Type 0 where
  pub source : List ℕ
  pub image : List ℕ

-- the words are `asm` and two names
abbrev pub assembly_request : List (List ℕ) → Option AssemblyRequest
assembly_request (form ∷ source ∷ image ∷ []) =
    if pointwise nat_eq form (codes "asm") then Some (record { source = source; image = image }) else None
assembly_request _ = None

-- what the words ask for: a run over flat memory, one of the machine, or the file of a source
pub data Request : Type 0 where
  Flat : FlatRequest → Request
  Machine : RunRequest → Request
  Assembly : AssemblyRequest → Request

-- the words ask for one of these, or for nothing
abbrev pub any_request : Option FlatRequest → Option RunRequest → Option AssemblyRequest → Option Request
any_request (Some q) run assembly = Some (Flat q)
any_request None (Some q) assembly = Some (Machine q)
any_request None None assembly = option_map Assembly assembly

abbrev pub request_of : List (List ℕ) → Option Request
request_of words = any_request (flat_request words) (run_request words) (assembly_request words)
