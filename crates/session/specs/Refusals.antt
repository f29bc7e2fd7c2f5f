-- What is said of a faulty file, and of a missing part. Source: this project's own rule.
use Rattle.std.specs.Prelude.{ℕ, List, [], ◌∷◌, ◌++◌, codes, decimal}
use Rattle.cfg_tree.specs.declared.fault.CfgFault.{CfgFault}
use Rattle.cfg_tree.specs.declared.fault.CfgFault.TheVariants as configs
use Rattle.elf_image.specs.declared.fault.ElfFault.{ElfFault}
use Rattle.elf_image.specs.declared.fault.ElfFault.TheVariants as images
use Rattle.gm_words.specs.Kind.{kind_name}
use Rattle.gm_words.specs.declared.kind.Kind.{Kind}
use Rattle.rv_asm.specs.Faults.{kind_name as asm_kind_name}
use Rattle.rv_asm.specs.declared.fault.AsmFault.{AsmFault}
use Rattle.rv_asm.specs.declared.fault.AsmFault.TheVariants as sources
use Rattle.stop_script.specs.declared.script_fault.ScriptFault.{ScriptFault}
use Rattle.stop_script.specs.declared.script_fault.ScriptFault.TheVariants as scripts
use Rattle.session.specs.Ending.{Ending, refusal, memory_refusal}
use Rattle.session.specs.Names.{shown_name}
use Rattle.session.specs.declared.status.Status.TheVariants as status

-- of a configuration
abbrev pub config_refusal : CfgFault → Ending
config_refusal configs.Text = refusal status.Config (codes "config text\n")
config_refusal (configs.Unknown path) = refusal status.Config (codes "config unknown " ++ shown_name path ++ codes "\n")
config_refusal (configs.Missing path) = refusal status.Config (codes "config missing " ++ shown_name path ++ codes "\n")
config_refusal (configs.Value path) = refusal status.Config (codes "config value " ++ shown_name path ++ codes "\n")
config_refusal (configs.Shape path) = refusal status.Config (codes "config shape " ++ shown_name path ++ codes "\n")
config_refusal configs.NoMemory = memory_refusal

-- of a script
abbrev pub script_refusal : ScriptFault → Ending
script_refusal (scripts.Line n) = refusal status.Script (codes "script line " ++ decimal n ++ codes "\n")
script_refusal scripts.NoMemory = memory_refusal

-- of an image
abbrev pub image_refusal : ElfFault → Ending
image_refusal images.Raw = refusal status.Image (codes "image raw\n")
image_refusal images.Header = refusal status.Image (codes "image header\n")
image_refusal images.Class = refusal status.Image (codes "image class\n")
image_refusal images.Order = refusal status.Image (codes "image order\n")
image_refusal images.Kind = refusal status.Image (codes "image kind\n")
image_refusal images.Machine = refusal status.Image (codes "image machine\n")
image_refusal (images.Segment index) = refusal status.Image (codes "image segment " ++ decimal index ++ codes "\n")
image_refusal images.NoMemory = memory_refusal

-- of a source
abbrev pub source_refusal : AsmFault → Ending
source_refusal (sources.Line n kind) =
    refusal status.Source (codes "source line " ++ decimal n ++ codes " " ++ asm_kind_name kind ++ codes "\n")
source_refusal sources.NoMemory = memory_refusal

-- of a kind of which there are too few parts
abbrev pub part_refusal : Kind → Ending
part_refusal kind = refusal status.Part (codes "part " ++ kind_name kind ++ codes "\n")
