-- From what a step comes to, to what its command does.
use Rattle.std.proofs.Common.{◌≡◌, ℕ, inl, inr, List, Option, Some, Result, Ok, Err, refl, sym, ap, ◌∙◌, subst}
use Rattle.std.specs.Prelude.{IfOk, IfErr}
use Rattle.cfg_tree.specs.Reading.{IsCause}
use Rattle.cfg_tree.specs.declared.config.Config.{Config}
use Rattle.cfg_tree.specs.declared.fault.CfgFault.{CfgFault}
use Rattle.elf_image.specs.Image.{image_of}
use Rattle.elf_image.specs.declared.fault.ElfFault.{ElfFault}
use Rattle.elf_image.specs.declared.fault.ElfFault.TheVariants as images
use Rattle.elf_image.specs.declared.image.Image.{Image}
use Rattle.gc_base.specs.declared.limits.TheConstants.{CONFIG_BYTES_MAX, IMAGE_BYTES_MAX, SCRIPT_BYTES_MAX, SOURCE_BYTES_MAX}
use Rattle.elf_image.specs.Written.{elf_bytes}
use Rattle.gc_outside.specs.Store.{Files, ChangesFile}
use Rattle.gc_outside.specs.Told.{Told}
use Rattle.gc_outside.proofs.Outputs.{rose_later}
use Rattle.gm_model.specs.ObjState.{ObjState}
use Rattle.rv_asm.specs.Source.{Explains}
use Rattle.rv_asm.specs.declared.fault.AsmFault.{AsmFault}
use Rattle.session.specs.Calls.{RunComesTo, MachineComesTo, AssemblyComesTo, PutComesTo}
use Rattle.session.specs.Ending.{Ending}
use Rattle.session.specs.Fetched.{HasFile}
use Rattle.session.specs.Inputs.{HasConfig, ConfigStops, HasScript, ScriptStops, IsImageFault, HasImage, ImageStops, HasProgram, SourceStops}
use Rattle.session.specs.Outside.{StoreSeen, SameStore, OnlyReads}
use Rattle.session.specs.Puts.{IsPut, IsPutCut, IsPutInPart}
use Rattle.session.specs.Refusals.{config_refusal, script_refusal, image_refusal, source_refusal}
use Rattle.session.specs.Sources.{source_words}
use Rattle.session.specs.Words.{RunRequest, AssemblyRequest}
use Rattle.session.proofs.FetchLemmas.{leads_earlier}
use Rattle.stop_script.specs.Script.{stops_of, TellsLine}
use Rattle.stop_script.specs.declared.script_fault.ScriptFault.{ScriptFault}
use Rattle.stop_script.specs.declared.stop.Stop.{Stop}

-- the file was had, and has a fault
module _ (name : List ℕ) (old new : StoreSeen) (bytes bytes' : List ℕ) (same : bytes' ≡ bytes) where
  pub config_stops : (fault : CfgFault) → HasFile name CONFIG_BYTES_MAX old.files bytes → IsCause bytes' fault → ConfigStops name old new (config_refusal fault)
  config_stops fault had cause = inr (bytes, had, (fault, subst (λ (x : List ℕ). IsCause x fault) same cause, refl))

  pub script_stops : (fault : ScriptFault) → HasFile name SCRIPT_BYTES_MAX old.files bytes → TellsLine fault (stops_of bytes') → ScriptStops name old new (script_refusal fault)
  script_stops fault had tells = inr (bytes, had, (fault, subst (λ (x : List ℕ). TellsLine fault (stops_of x)) same tells, refl))

  pub source_stops : (fault : AsmFault) → HasFile name SOURCE_BYTES_MAX old.files bytes → Explains (source_words bytes') fault → SourceStops name old new (source_refusal fault)
  source_stops fault had explains = inr (bytes, had, (fault, subst (λ (x : List ℕ). Explains (source_words x) fault) same explains, refl))

  image_fault : (fault : ElfFault) (a : Result Image ElfFault) → IfErr a (λ k. ◌≡◌ {A = Result Image ElfFault} (Err fault) (Err k)) → IfOk a (λ image. fault ≡ images.NoMemory)
      → IsImageFault fault a
  image_fault fault (Ok image) told free = free
  image_fault fault (Err k) told free = cc

  pub image_stops : (ram : ℕ) (fault : ElfFault) → HasFile name IMAGE_BYTES_MAX old.files bytes
      → IfErr (image_of bytes' ram) (λ k. ◌≡◌ {A = Result Image ElfFault} (Err fault) (Err k)) → IfOk (image_of bytes' ram) (λ image. fault ≡ images.NoMemory)
      → ImageStops name ram old new (image_refusal fault)
  image_stops ram fault had told free =
      inr (bytes, had, (fault, subst (λ (x : List ℕ). IsImageFault fault (image_of x ram)) same (image_fault fault (image_of bytes' ram) told free), refl))

-- `run`, step by step
module _ (q : RunRequest) (parts : List ObjState) (old new : StoreSeen) (e : Ending) (c : Config) (has : HasConfig q.config old.files c) (s1 : StoreSeen) (first : OnlyReads old s1) where
  pub run_script_stops : ScriptStops q.script s1 new e → RunComesTo q parts old new e
  run_script_stops h = inr (c, has, inl (leads_earlier q.script SCRIPT_BYTES_MAX (λ bytes f. (fault : ScriptFault) × TellsLine fault (stops_of bytes) × (f ≡ script_refusal fault)) old s1 new e first h))

  module _ (stops : List Stop) (had : HasScript q.script s1.files stops) (s2 : StoreSeen) (second : OnlyReads s1 s2) where
    script : HasScript q.script old.files stops
    script = subst (λ (x : Option Files). HasScript q.script x stops) first.same.files had

    both : s2.files ≡ old.files
    both = second.same.files ∙ first.same.files

    pub run_image_stops : ImageStops q.image c.system_ram s2 new e → RunComesTo q parts old new e
    run_image_stops h =
        let Rest : List ℕ → Ending → Type 0 = (λ bytes f. (fault : ElfFault) × IsImageFault fault (image_of bytes c.system_ram) × (f ≡ image_refusal fault)) in
        inr (c, has, inr (stops, script, inl (leads_earlier q.image IMAGE_BYTES_MAX Rest old s1 new e first (leads_earlier q.image IMAGE_BYTES_MAX Rest s1 s2 new e second h))))

    pub run_machine : (image : Image) → HasImage q.image c.system_ram s2.files image → MachineComesTo c stops image parts e → RunComesTo q parts old new e
    run_machine image got h =
        inr (c, has, inr (stops, script, inr (image, subst (λ (x : Option Files). HasImage q.image c.system_ram x image) both got, h)))

-- the put after the source was had
pub put_earlier : (name words : List ℕ) (old mid new : StoreSeen) (e : Ending) → OnlyReads old mid → PutComesTo name words mid new e → PutComesTo name words old new e
put_earlier name words old mid new e k (inl h) =
    inl (record { files = h.0.files ∙ k.same.files; open_put = h.0.open_put ∙ k.same.open_put }, h.1)
put_earlier name words old mid new e k (inr (inl h)) =
    inr (inl (record { file = subst (λ (x : Option Files). Told (ChangesFile name (Some (elf_bytes words))) x new.files) k.same.files h.0.file; ended = h.0.ended }, h.1))
put_earlier name words old mid new e k (inr (inr h)) =
    inr (inr (record { file = subst (λ (x : Option Files). Told (IsPutInPart name (elf_bytes words)) x new.files) k.same.files h.0.file; ended = h.0.ended }, rose_later old.faults mid.faults new.faults k.count h.1, h.2))
