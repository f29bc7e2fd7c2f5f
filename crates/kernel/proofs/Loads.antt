-- A machine that is loaded with an image.
use Rattle.std.proofs.Common.{◌≡◌, ℕ, ◌+◌, ◌-◌, ◌<◌, ◌≤◌, refl, sym, ◌∙◌, ap, subst, arith, All, Bool, true, false, IfSome, Option, Some, None, [], ◌++◌, List, append-nil, drop, fold, get_or, length, map, replicate}
use Rattle.std.proofs.Math.ListN.{drop_of_length-le}
use Rattle.std.proofs.lemmas.List.{length-replicate}
use Rattle.ev_queue.specs.declared.slot.Slot.{Slot}
use Rattle.cfg_tree.specs.declared.config.Config.{Config}
use Rattle.elf_image.proofs.BlockLaws.{image_loaded, zeroed_is}
use Rattle.elf_image.proofs.RamLaws.{length-loaded}
use Rattle.elf_image.specs.Image.{LiesInRam}
use Rattle.elf_image.specs.Loading.{Loading, PutsBlock, ram_so_far}
use Rattle.elf_image.specs.Ram.{with_piece, ram_of}
use Rattle.elf_image.specs.declared.image.Image.{Image}
use Rattle.elf_image.specs.declared.piece.Piece.{Piece}
use Rattle.gm_model.specs.Memory.{with_bytes_at}
use Rattle.gm_model.specs.ObjState.{ObjState, Device, Blank, AtomicCpu, TimingCpu, Xbar, Server, Memory, Uart, Exit, Timer}
use Rattle.gm_system.specs.Machine.{IsMachineSound}
use Rattle.gm_system.proofs.ForKernel.{put_size, bytes_size, rebuilt_sound}
use Rattle.gm_model.specs.Start.{start_state, with_raw}
use Rattle.gm_model.specs.Sys.{Sys, object_at}
use Rattle.gm_model.specs.View.{own_ram}
use Rattle.gm_model.specs.Command.{own_bytes}
use Rattle.rv_step.specs.FlatMem.{ram_base, ram_put, zeroed}
use Rattle.gm_model.specs.Drained.{is_settled}
use Rattle.kernel.proofs.Changes.{untouched}
use Rattle.kernel.proofs.SettledLemmas.{start_settled}
use Rattle.kernel.specs.Load.{IsAsBuilt, entered}
use Rattle.kernel.specs.Settled.{IsSettled}

-- each part that keeps bytes has room for those that RAM has room for
pub holds : (s : Sys) (table : List Slot) (n k : ℕ) → IsMachineSound s table → n ≤ length (own_ram s.objects) → IfSome (own_bytes (object_at s k)) (λ m. n ≤ length m)
holds s table n k h l = by (own_bytes (object_at s k)) (bytes_size s table k h.steady) where
  by : (o : Option (List ℕ)) → IfSome o (λ m. length m ≡ length (own_ram s.objects)) → IfSome o (λ m. n ≤ length m)
  by None e = e
  by (Some m) e = omega (arith, e, l)

-- bytes that fill RAM are all that it has
whole_ram : (size : ℕ) (m : List ℕ) → length m ≡ size → with_bytes_at (replicate size 0) 0 m ≡ m
whole_ram size m e =
    let zeros : List ℕ = replicate size 0 in
    let same : 0 + length m ≡ length m = omega arith in
    let none : drop (length m) zeros ≡ [] = drop_of_length-le zeros (omega (arith, e, length-replicate size (let z : ℕ = 0 in z))) in
    ap (λ (xs : List ℕ). m ++ xs) (ap (λ (n : ℕ). drop n zeros) same ∙ none) ∙ append-nil m

-- the memory of a server holds other bytes
device_with : List ℕ → Device → Device
device_with m (Memory old) = Memory m
device_with m (Uart u) = Uart u
device_with m (Exit code) = Exit code
device_with m (Timer t) = Timer t

part_with : List ℕ → ObjState → ObjState
part_with m (Blank k) = Blank k
part_with m (AtomicCpu s) = AtomicCpu s
part_with m (TimingCpu s) = TimingCpu s
part_with m (Xbar s) = Xbar s
part_with m (Server s) = Server (record s { device = device_with m s.device })

module _ (c : Config) where
  -- the machine at its start in a mode
  abbrev begun : Bool → ℕ → List ℕ → Sys
  begun timing entry m = start_state (record c { system_model = timing }) entry m

  abbrev holding : Bool → List ℕ → Sys
  holding timing m = record (begun timing ram_base []) { objects = map (λ o. part_with m o) (begun timing ram_base []).objects }

  held : (timing : Bool) (m : List ℕ) → length m ≡ c.system_ram → begun timing ram_base m ≡ holding timing m
  unfolding device_with part_with
  held true m e = ap (holding true) (whole_ram c.system_ram m e)
  held false m e = ap (holding false) (whole_ram c.system_ram m e)

  -- at the start RAM has its configured size
  pub start_size : (m : List ℕ) → length m ≡ c.system_ram → length (own_ram (start_state c ram_base m).objects) ≡ c.system_ram
  start_size m e = in_mode c.system_model where
    in_mode : (b : Bool) → length (own_ram (begun b ram_base m).objects) ≡ c.system_ram
    in_mode true = ap length (whole_ram c.system_ram m e) ∙ e
    in_mode false = ap length (whole_ram c.system_ram m e) ∙ e

  -- and is zero
  pub start_zeros : start_state c ram_base [] ≡ start_state c ram_base (replicate c.system_ram 0)
  unfolding device_with part_with
  start_zeros = in_mode c.system_model where
    zeros : length (replicate c.system_ram (let z : ℕ = 0 in z)) ≡ c.system_ram
    zeros = length-replicate c.system_ram (let z : ℕ = 0 in z)

    in_mode : (b : Bool) → begun b ram_base [] ≡ begun b ram_base (replicate c.system_ram 0)
    in_mode true = sym (held true (replicate c.system_ram 0) zeros)
    in_mode false = sym (held false (replicate c.system_ram 0) zeros)

  -- bytes that are put into RAM there
  pub start_put : (m : List ℕ) (address : ℕ) (bytes : List ℕ) → length m ≡ c.system_ram → address - ram_base + length bytes ≤ length m
      → with_raw address bytes (start_state c ram_base m) ≡ start_state c ram_base (ram_put m address bytes)
  unfolding device_with part_with
  start_put m address bytes e l = in_mode c.system_model where
    size : length (ram_put m address bytes) ≡ c.system_ram
    size = put_size m (address - ram_base) bytes l ∙ e

    in_mode : (b : Bool) → with_raw address bytes (begun b ram_base m) ≡ begun b ram_base (ram_put m address bytes)
    in_mode true = ap (with_raw address bytes) (held true m e) ∙ sym (held true (ram_put m address bytes) size)
    in_mode false = ap (with_raw address bytes) (held false m e) ∙ sym (held false (ram_put m address bytes) size)

  -- the hart is reset to begin at another entry
  pub start_entered : (m : List ℕ) (entry : ℕ) → entered entry (start_state c ram_base m) ≡ start_state c entry m
  start_entered m entry = in_mode c.system_model where
    in_mode : (b : Bool) → entered entry (begun b ram_base m) ≡ begun b entry m
    in_mode true = refl
    in_mode false = refl

-- the part at a place, which is still the one that it was, has room for what RAM has room for
pub room_still : {X : Type 0} (f : X → ObjState) (s : Sys) (table : List Slot) (xs : List X) (i : ℕ) (b : X) (n : ℕ) → IsMachineSound s table → n ≤ length (own_ram s.objects)
    → i < length xs → b ≡ get_or xs i b → drop i (map f xs) ≡ drop i s.objects → IfSome (own_bytes (f b)) (λ m. n ≤ length m)
room_still f s table xs i b n h l here is rest =
    subst (λ o. IfSome (own_bytes o) (λ m. n ≤ length m)) (untouched f (λ o. record { state = o; changes = [] }) s.objects xs i b b here is rest) (holds s table n i h l)

-- the blocks so far were put
abbrev pub ArePut : Sys → Loading → Sys → Type 0
ArePut s0 l s = (c : Config) → IsAsBuilt c s0 → All (LiesInRam c.system_ram) l.pieces → s ≡ start_state c ram_base (ram_so_far l c.system_ram)

-- none yet
pub none_put : (s0 : Sys) (l : Loading) → ((ram : ℕ) → ram_so_far l ram ≡ zeroed ram) → ArePut s0 l s0
none_put s0 l clear = λ c built fits.
    built.start ∙ (start_zeros c ∙ ap (start_state c ram_base) (sym (zeroed_is c.system_ram) ∙ sym (clear c.system_ram)))

-- what is loaded lies in the largest RAM
larger : (n m : ℕ) (ps : List Piece) → n ≤ m → All (LiesInRam n) ps → All (LiesInRam m) ps
larger n m ps l h k d here = let q = h k d here in record { above = q.above; below = omega (arith, q.below, l) }

pub fits_largest : (s0 : Sys) (ps : List Piece) → (c : Config) × IsAsBuilt c s0 × All (LiesInRam c.system_ram) ps → All (LiesInRam 16777216) ps
fits_largest s0 ps f = larger f.0.system_ram 16777216 ps f.1.valid.ram_most f.2

-- a block more
module _ (s0 s : Sys) (old new : Loading) (address : ℕ) (block : List ℕ) (ps : List Piece) (same : old.pieces ≡ ps) (before : ArePut s0 old s)
    (puts : (ram : ℕ) → All (LiesInRam ram) old.pieces → PutsBlock ram address block old new) where
  pub block_put : (s' : Sys) → new.pieces ≡ old.pieces → s' ≡ with_raw address block s → ArePut s0 new s'
  block_put s' kept after = λ c built fits.
      let inside : All (LiesInRam c.system_ram) old.pieces = subst (All (LiesInRam c.system_ram)) kept fits in
      let p = puts c.system_ram inside in
      let m : List ℕ = ram_so_far old c.system_ram in
      let within : address - ram_base + length block ≤ length m = omega (arith, p.above, p.below, p.size) in
      let P : Sys → Type 0 = λ t. s' ≡ with_raw address block t in
      subst P (before c built inside) after ∙ (start_put c m address block p.size within ∙ ap (start_state c ram_base) (sym p.put))

  -- it has its place in RAM
  module _ (f : (c : Config) × IsAsBuilt c s0 × All (LiesInRam c.system_ram) ps) where
    of_this : PutsBlock f.0.system_ram address block old new
    of_this = puts f.0.system_ram (subst (All (LiesInRam f.0.system_ram)) (sym same) f.2)

    pub block_above : ram_base ≤ address
    block_above = of_this.above

    pub block_most : address - ram_base + length block ≤ length (own_ram s.objects)
    block_most =
        let whole : length (own_ram s.objects) ≡ f.0.system_ram =
        ap (λ t. length (own_ram t.objects)) (before f.0 f.1 (subst (All (LiesInRam f.0.system_ram)) (sym same) f.2)) ∙ start_size f.0 (ram_so_far old f.0.system_ram) of_this.size in
        omega (arith, whole, of_this.above, of_this.below)

-- all blocks were put, and the hart is at its entry
pub image_put : (s0 s s' : Sys) (image : Image) (l : Loading) → l.pieces ≡ image.pieces → ArePut s0 l s
    → ((ram : ℕ) → All (LiesInRam ram) l.pieces → ram_so_far l ram ≡ fold with_piece (zeroed ram) l.pieces) → s' ≡ entered image.entry s
    → (c : Config) → IsAsBuilt c s0 → All (LiesInRam c.system_ram) image.pieces → s' ≡ start_state c image.entry (ram_of image c.system_ram)
image_put s0 s s' image l same before end after = λ c built fits.
    let inside : All (LiesInRam c.system_ram) l.pieces = subst (All (LiesInRam c.system_ram)) (sym same) fits in
    let all : ram_so_far l c.system_ram ≡ ram_of image c.system_ram =
    end c.system_ram inside ∙ (ap (λ ps. fold with_piece (zeroed c.system_ram) ps) same ∙ image_loaded image c.system_ram) in
    let Q : Sys → Type 0 = λ t. s' ≡ entered image.entry t in
    subst Q (before c built inside ∙ ap (start_state c ram_base) all) after ∙ start_entered c (ram_of image c.system_ram) image.entry

-- and it stays sound
pub loaded_sound : (s0 s s' : Sys) (table table' : List Slot) (image : Image) (l : Loading) → l.pieces ≡ image.pieces → ArePut s0 l s
    → ((c : Config) → IsAsBuilt c s0 → All (LiesInRam c.system_ram) image.pieces → s' ≡ start_state c image.entry (ram_of image c.system_ram))
    → IsMachineSound s table → table' ≡ table → (c : Config) × IsAsBuilt c s0 × All (LiesInRam c.system_ram) image.pieces → IsMachineSound s' table'
loaded_sound s0 s s' table table' image l same before done h t f =
    let c : Config = f.0 in
    let zeros : List ℕ = replicate c.system_ram 0 in
    let all : length (ram_of image c.system_ram) ≡ c.system_ram = length-loaded c.system_ram zeros image.pieces (length-replicate c.system_ram (let z : ℕ = 0 in z)) f.2 in
    let P : Sys → Type 0 = λ x. IsMachineSound x table in
    let Q : Sys → Type 0 = λ x. IsMachineSound x table' in
    let R : List Slot → Type 0 = λ x. IsMachineSound (start_state c image.entry (ram_of image c.system_ram)) x in
    subst Q (sym (done c f.1 f.2)) (subst R (sym t)
    (rebuilt_sound c ram_base image.entry (ram_so_far l c.system_ram) (ram_of image c.system_ram) table f.1.valid (omega (arith, all))
    (subst P (before c f.1 (subst (All (LiesInRam c.system_ram)) (sym same) f.2)) h)))

-- a machine that is being loaded is drained
pub loading_drained : (s0 s : Sys) (l : Loading) (ps : List Piece) → l.pieces ≡ ps → ArePut s0 l s → (c : Config) × IsAsBuilt c s0 × All (LiesInRam c.system_ram) ps → is_settled s ≡ true
loading_drained s0 s l ps same before f =
    let P : Sys → Type 0 = λ x. is_settled x ≡ true in
    subst P (sym (before f.0 f.1 (subst (All (LiesInRam f.0.system_ram)) (sym same) f.2))) (start_settled f.0 ram_base (ram_so_far l f.0.system_ram)).drained

-- and once it is loaded it is settled
pub loaded_settled : (s0 s : Sys) (image : Image) → ((c : Config) → IsAsBuilt c s0 → All (LiesInRam c.system_ram) image.pieces → s ≡ start_state c image.entry (ram_of image c.system_ram))
    → (c : Config) × IsAsBuilt c s0 × All (LiesInRam c.system_ram) image.pieces → IsSettled s
loaded_settled s0 s image loaded f =
    let P : Sys → Type 0 = IsSettled in
    subst P (sym (loaded f.0 f.1 f.2)) (start_settled f.0 image.entry (ram_of image f.0.system_ram))
