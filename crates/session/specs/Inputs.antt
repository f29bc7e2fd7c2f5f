-- The files that a call reads: what they say, and how it ends at a faulty one. Source: this project's own rule.
use Rattle.std.specs.Prelude.{◌≡◌, ℕ, List, Option, Result, Ok, Err}
use Rattle.cfg_tree.specs.Reading.{IsCause, ParsesConfig}
use Rattle.cfg_tree.specs.declared.config.Config.{Config}
use Rattle.cfg_tree.specs.declared.fault.CfgFault.{CfgFault}
use Rattle.elf_image.specs.Image.{image_of}
use Rattle.elf_image.specs.declared.fault.ElfFault.{ElfFault}
use Rattle.elf_image.specs.declared.fault.ElfFault.TheVariants as images
use Rattle.elf_image.specs.declared.image.Image.{Image}
use Rattle.gc_base.specs.declared.limits.TheConstants.{CONFIG_BYTES_MAX, IMAGE_BYTES_MAX, SCRIPT_BYTES_MAX, SOURCE_BYTES_MAX}
use Rattle.gc_outside.specs.Store.{Files}
use Rattle.rv_asm.specs.Source.{Explains}
use Rattle.rv_asm.specs.declared.fault.AsmFault.{AsmFault}
use Rattle.session.specs.Ending.{Ending}
use Rattle.session.specs.Outside.{StoreSeen}
use Rattle.session.specs.Fetched.{HasFile, FileLeadsTo}
use Rattle.session.specs.Refusals.{config_refusal, script_refusal, image_refusal, source_refusal}
use Rattle.session.specs.Sources.{source_words}
use Rattle.stop_script.specs.Script.{stops_of, TellsLine}
use Rattle.stop_script.specs.declared.script_fault.ScriptFault.{ScriptFault}
use Rattle.stop_script.specs.declared.stop.Stop.{Stop}

-- the file is there and within its limit, and writes this configuration
pub record HasConfig (name : List ℕ) (files : Option Files) (c : Config) : Type 0 where
  pub bytes : List ℕ
  pub file : HasFile name CONFIG_BYTES_MAX files bytes
  pub says : ParsesConfig bytes c

-- it can't be had, or has a fault
abbrev pub ConfigStops : List ℕ → StoreSeen → StoreSeen → Ending → Type 0
ConfigStops name old new e =
    FileLeadsTo name CONFIG_BYTES_MAX
    (λ bytes f. (fault : CfgFault) × IsCause bytes fault × (f ≡ config_refusal fault)) old new e

-- the file is there and within its limit, and its lines say these stops
pub record HasScript (name : List ℕ) (files : Option Files) (stops : List Stop) : Type 0 where
  pub bytes : List ℕ
  pub file : HasFile name SCRIPT_BYTES_MAX files bytes
  pub says : stops_of bytes ≡ Ok stops

-- it can't be had, or a line is refused
abbrev pub ScriptStops : List ℕ → StoreSeen → StoreSeen → Ending → Type 0
ScriptStops name old new e =
    FileLeadsTo name SCRIPT_BYTES_MAX
    (λ bytes f. (fault : ScriptFault) × TellsLine fault (stops_of bytes) × (f ≡ script_refusal fault)) old new e

-- the file is there and within its limit, and says this image, which RAM of so many bytes holds
pub record HasImage (name : List ℕ) (ram : ℕ) (files : Option Files) (image : Image) : Type 0 where
  pub bytes : List ℕ
  pub file : HasFile name IMAGE_BYTES_MAX files bytes
  pub says : image_of bytes ram ≡ Ok image

-- this is what is wrong with an image, or, where nothing is, want of memory
abbrev pub IsImageFault : ElfFault → Result Image ElfFault → Type 0
IsImageFault fault (Ok image) = fault ≡ images.NoMemory
IsImageFault fault (Err first) = fault ≡ first

-- it can't be had, or has a fault
abbrev pub ImageStops : List ℕ → ℕ → StoreSeen → StoreSeen → Ending → Type 0
ImageStops name ram old new e =
    FileLeadsTo name IMAGE_BYTES_MAX
    (λ bytes f. (fault : ElfFault) × IsImageFault fault (image_of bytes ram) × (f ≡ image_refusal fault)) old new e

-- the file is there and within its limit, and its lines assemble to these words
pub record HasProgram (name : List ℕ) (files : Option Files) (words : List ℕ) : Type 0 where
  pub bytes : List ℕ
  pub file : HasFile name SOURCE_BYTES_MAX files bytes
  pub says : source_words bytes ≡ Ok words

-- it can't be had, or a line is refused
abbrev pub SourceStops : List ℕ → StoreSeen → StoreSeen → Ending → Type 0
SourceStops name old new e =
    FileLeadsTo name SOURCE_BYTES_MAX
    (λ bytes f. (fault : AsmFault) × Explains (source_words bytes) fault × (f ≡ source_refusal fault)) old new e
