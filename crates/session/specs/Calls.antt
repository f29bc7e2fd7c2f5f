-- What the words of a call come to: each step stops the call, or leads to the next. Source: this project's own rule.
use Rattle.std.specs.Prelude.{◌≡◌, ℕ, ◌⊎◌, List, [], Option, Some, None}
use Rattle.cfg_tree.specs.declared.config.Config.{Config}
use Rattle.elf_image.specs.Written.{elf_bytes}
use Rattle.elf_image.specs.declared.image.Image.{Image}
use Rattle.gm_model.specs.ObjState.{ObjState}
use Rattle.gm_words.specs.declared.kind.Kind.{Kind}
use Rattle.kernel.specs.Build.{lacking}
use Rattle.rv_step.specs.Run.{flat_run}
use Rattle.session.specs.Ending.{Ending, work_done, usage_refusal, store_refusal, memory_refusal, EndsBy}
use Rattle.session.specs.Inputs.{HasConfig, HasScript, HasImage, HasProgram}
use Rattle.session.specs.Inputs.{ConfigStops, ScriptStops, ImageStops, SourceStops}
use Rattle.session.specs.Outside.{StoreSeen, StoreFailed, SameStore, Outside}
use Rattle.session.specs.Puts.{IsPut, IsPutCut}
use Rattle.session.specs.Fetched.{Then}
use Rattle.session.specs.Refusals.{part_refusal}
use Rattle.session.specs.Report.{flat_emissions}
use Rattle.session.specs.Run.{flat_size, flat_start}
use Rattle.session.specs.Script.{ScriptComesTo, machine_start}
use Rattle.session.specs.Words.{Request, Flat, Machine, Assembly, FlatRequest, RunRequest, AssemblyRequest, request_of}
use Rattle.session.specs.declared.status.Status.{Status}
use Rattle.stop_script.specs.declared.stop.Stop.{Stop}

-- `flat`: the image is had, and runs over flat memory, if there is memory for that
abbrev pub FlatComesTo : FlatRequest → StoreSeen → StoreSeen → Ending → Type 0
FlatComesTo q old new e =
    Then (ImageStops q.image flat_size old new) (HasImage q.image flat_size old.files)
    (λ image f. (f ≡ memory_refusal) ⊎ (f ≡ work_done (flat_emissions (flat_run (flat_start image) q.count)))) e

-- the machine can't be built: there are too few parts of a kind, or memory was not found
abbrev pub BuildStops : Config → List ObjState → Ending → Type 0
BuildStops c parts e = (e ≡ memory_refusal) ⊎ ((kind : Kind) × (lacking c parts ≡ Some kind) × (e ≡ part_refusal kind))

-- the machine is built, and carries out the stops with the image in it, if there is memory for those that take some
abbrev pub MachineComesTo : Config → List Stop → Image → List ObjState → Ending → Type 0
MachineComesTo c stops image parts e =
    BuildStops c parts e
    ⊎ ((lacking c parts ≡ None) × ScriptComesTo c (machine_start c image) stops e)

-- `run`: the configuration is had, then the script, then the image, and the machine carries out the script
abbrev pub RunComesTo : RunRequest → List ObjState → StoreSeen → StoreSeen → Ending → Type 0
RunComesTo q parts old new e =
    Then (ConfigStops q.config old new) (HasConfig q.config old.files)
    (λ c. Then (ScriptStops q.script old new) (HasScript q.script old.files)
    (λ stops. Then (ImageStops q.image c.system_ram old new) (HasImage q.image c.system_ram old.files)
    (λ image. MachineComesTo c stops image parts))) e

-- the file of a program is put; or the store fails at it, which leaves a part; or memory was not found, and nothing was put
abbrev pub PutComesTo : List ℕ → List ℕ → StoreSeen → StoreSeen → Ending → Type 0
PutComesTo name words old new e =
    (SameStore old new × (e ≡ memory_refusal))
    ⊎ ((IsPut name (elf_bytes words) old new × (e ≡ work_done []))
    ⊎ (IsPutCut name (elf_bytes words) old new × StoreFailed old new × (e ≡ store_refusal name)))

-- `asm`: the source is had, and the ELF file of its words is put; where the source stops it, nothing was put
abbrev pub AssemblyComesTo : AssemblyRequest → StoreSeen → StoreSeen → Ending → Type 0
AssemblyComesTo q old new e =
    Then (λ f. SameStore old new × SourceStops q.source old new f) (HasProgram q.source old.files)
    (λ words. PutComesTo q.image words old new) e

-- what a request comes to; no request comes to the usage
abbrev pub ComesTo : Option Request → List ObjState → StoreSeen → StoreSeen → Ending → Type 0
ComesTo None parts old new e = e ≡ usage_refusal
ComesTo (Some (Flat q)) parts old new e = FlatComesTo q old new e
ComesTo (Some (Machine q)) parts old new e = RunComesTo q parts old new e
ComesTo (Some (Assembly q)) parts old new e = AssemblyComesTo q old new e

-- a call with these words answers this status, and leaves what it says of an ending that the words come to
unfoldable pub EndsAs : Status → List (List ℕ) → List ObjState → Outside → Outside → Type 0
EndsAs s words parts old new = EndsBy (ComesTo (request_of words) parts) s old new
