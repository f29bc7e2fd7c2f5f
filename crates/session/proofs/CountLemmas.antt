-- What the store counts on the way to an ending.
use Rattle.std.proofs.Common.{◌≡◌, ℕ, inl, inr, List, Err, subst}
use Rattle.cfg_tree.specs.declared.config.Config.{Config}
use Rattle.cfg_tree.specs.declared.fault.CfgFault.{CfgFault}
use Rattle.cfg_tree.specs.declared.fault.CfgFault.TheVariants as configs
use Rattle.elf_image.specs.declared.fault.ElfFault.{ElfFault}
use Rattle.elf_image.specs.declared.fault.ElfFault.TheVariants as images
use Rattle.gc_outside.specs.Faults.{CountsFaultIf}
use Rattle.gc_outside.specs.Store.{is_failed}
use Rattle.gc_outside.specs.declared.store.GetError.{GetError}
use Rattle.gm_model.specs.ObjState.{ObjState}
use Rattle.gm_model.specs.Sys.{Sys}
use Rattle.rv_asm.specs.declared.fault.AsmFault.{AsmFault}
use Rattle.rv_asm.specs.declared.fault.AsmFault.TheVariants as sources
use Rattle.session.specs.Calls.{BuildStops}
use Rattle.session.specs.Ending.{Ending, CountsFaults, is_store_failure}
use Rattle.session.specs.Outside.{StoreSeen}
use Rattle.session.specs.Refusals.{config_refusal, script_refusal, image_refusal, source_refusal}
use Rattle.session.specs.Script.{ScriptComesTo}
use Rattle.stop_script.specs.declared.script_fault.ScriptFault.{ScriptFault}
use Rattle.stop_script.specs.declared.script_fault.ScriptFault.TheVariants as scripts
use Rattle.stop_script.specs.declared.stop.Stop.{Stop}

-- a get that failed, and one for which memory was not found
pub get_counts : (e k : GetError) (a b : ℕ) → e ≡ k → CountsFaultIf (is_failed (Err e)) a b → CountsFaultIf (is_failed (Err k)) a b
get_counts e k a b same h = subst (λ (x : GetError). CountsFaultIf (is_failed (Err x)) a b) same h

-- what is refused by what its file says is refused by no failure of the store
module _ (old new : StoreSeen) (same : new.faults ≡ old.faults) where
  pub config_counts : (fault : CfgFault) → CountsFaults (config_refusal fault) old new
  config_counts configs.Text = same
  config_counts (configs.Unknown path) = same
  config_counts (configs.Missing path) = same
  config_counts (configs.Value path) = same
  config_counts (configs.Shape path) = same
  config_counts configs.NoMemory = same

  pub script_counts : (fault : ScriptFault) → CountsFaults (script_refusal fault) old new
  script_counts (scripts.Line n) = same
  script_counts scripts.NoMemory = same

  pub image_counts : (fault : ElfFault) → CountsFaults (image_refusal fault) old new
  image_counts images.Raw = same
  image_counts images.Header = same
  image_counts images.Class = same
  image_counts images.Order = same
  image_counts images.Kind = same
  image_counts images.Machine = same
  image_counts (images.Segment index) = same
  image_counts images.NoMemory = same

  pub source_counts : (fault : AsmFault) → CountsFaults (source_refusal fault) old new
  source_counts (sources.Line n kind) = same
  source_counts sources.NoMemory = same

-- the store counted none before
pub counts_earlier : (e : Ending) (old mid new : StoreSeen) → mid.faults ≡ old.faults → CountsFaults e mid new → CountsFaults e old new
counts_earlier e old mid new same h =
    let P : ℕ → Type 0 = λ n. CountsFaultIf (is_store_failure e.status) n new.faults in subst P same h

-- a machine that can't be built is no failure of the store
pub build_counts : (e : Ending) (c : Config) (parts : List ObjState) (old new : StoreSeen) → BuildStops c parts e → new.faults ≡ old.faults → CountsFaults e old new
build_counts e c parts old new (inl h) same = rw h same
build_counts e c parts old new (inr h) same = rw h.2 same

-- nor is a script
pub stops_counts : (e : Ending) (c : Config) (s : Sys) (list : List Stop) (old new : StoreSeen) → ScriptComesTo c s list e → new.faults ≡ old.faults → CountsFaults e old new
stops_counts e c s list old new (inl h) same = rw h same
stops_counts e c s list old new (inr h) same = rw h.ending same
