use Rattle.std.proofs.Common.{◌∙◌, refl, ap}
use Rattle.elf_image.specs.Loading.{Loading}
use Rattle.kernel.specs.Shown.{sys_of}
use Rattle.kernel.proofs.Loads.{none_put, block_put, block_most, image_put, loaded_sound, loading_drained, loaded_settled}
use Rattle.kernel.proofs.machine.Machine.load_image.Goals as goal

pub loop-block-init : goal.loop-block-init
loop-block-init g c = record {
  pieces = ap (λ (l : Loading). l.pieces) c.new-blocks.ensures.start ∙ c.items.ensures;
  put = none_put (sys_of (λ b. (goal.SimObject-dyn g (b.vtable, b.value)).state b.value) c.args.self.now) c.new-blocks.result c.new-blocks.ensures.zero;
  entries = refl;
  named = refl;
  machine = c.requires.machine;
}

pub put_raw-requires-clause-most : goal.put_raw-requires-clause-most
put_raw-requires-clause-most g c =
    let i = c.loop-block.invariant in
    block_most (sys_of (λ b. (goal.SimObject-dyn g (b.vtable, b.value)).state b.value) c.args.self.now) (sys_of (λ b. (goal.SimObject-dyn g (b.vtable, b.value)).state b.value) c.loop-block.self) c.loop-block.blocks c.next.new.self c.in-Some.block.addr c.in-Some.block.bytes.now c.args.image.now.pieces i.pieces i.put c.in-Some.ensures.put c.requires.fits

pub loop-block-preserved : goal.loop-block-preserved
loop-block-preserved g c =
    let i = c.loop-block.invariant in
    record {
      pieces = c.in-Some.ensures.pieces ∙ i.pieces;
      put = block_put (sys_of (λ b. (goal.SimObject-dyn g (b.vtable, b.value)).state b.value) c.args.self.now) (sys_of (λ b. (goal.SimObject-dyn g (b.vtable, b.value)).state b.value) c.loop-block.self) c.loop-block.blocks c.next.new.self c.in-Some.block.addr c.in-Some.block.bytes.now c.args.image.now.pieces i.pieces i.put c.in-Some.ensures.put
          (sys_of (λ b. (goal.SimObject-dyn g (b.vtable, b.value)).state b.value) c.put_raw.new.self) c.in-Some.ensures.pieces c.put_raw.ensures.raw;
      entries = c.put_raw.ensures.entries ∙ i.entries;
      named = c.put_raw.ensures.named ∙ i.named;
      machine = c.put_raw.ensures.machine;
    }

pub returns-clause-loaded : goal.returns-clause-loaded
returns-clause-loaded g c =
    let i = c.loop-block.invariant in
    image_put (sys_of (λ b. (goal.SimObject-dyn g (b.vtable, b.value)).state b.value) c.args.self.now) (sys_of (λ b. (goal.SimObject-dyn g (b.vtable, b.value)).state b.value) c.loop-block.self) (sys_of (λ b. (goal.SimObject-dyn g (b.vtable, b.value)).state b.value) c.enter.new.self) c.args.image.now c.loop-block.blocks i.pieces i.put c.in_default.ensures.end c.enter.ensures.entered

pub returns-clause-machine : goal.returns-clause-machine
returns-clause-machine g c =
    let i = c.loop-block.invariant in
    record {
      sound = loaded_sound (sys_of (λ b. (goal.SimObject-dyn g (b.vtable, b.value)).state b.value) c.args.self.now) (sys_of (λ b. (goal.SimObject-dyn g (b.vtable, b.value)).state b.value) c.loop-block.self) (sys_of (λ b. (goal.SimObject-dyn g (b.vtable, b.value)).state b.value) c.enter.new.self) _ _ c.args.image.now c.loop-block.blocks i.pieces i.put
          (image_put (sys_of (λ b. (goal.SimObject-dyn g (b.vtable, b.value)).state b.value) c.args.self.now) (sys_of (λ b. (goal.SimObject-dyn g (b.vtable, b.value)).state b.value) c.loop-block.self) (sys_of (λ b. (goal.SimObject-dyn g (b.vtable, b.value)).state b.value) c.enter.new.self) c.args.image.now c.loop-block.blocks i.pieces i.put c.in_default.ensures.end c.enter.ensures.entered)
          i.machine.sound c.enter.ensures.table c.requires.fits;
    }

pub put_raw-requires-clause-drained : goal.put_raw-requires-clause-drained
put_raw-requires-clause-drained g c =
    let i = c.loop-block.invariant in
    loading_drained (sys_of (λ b. (goal.SimObject-dyn g (b.vtable, b.value)).state b.value) c.args.self.now) (sys_of (λ b. (goal.SimObject-dyn g (b.vtable, b.value)).state b.value) c.loop-block.self) c.loop-block.blocks c.args.image.now.pieces i.pieces i.put c.requires.fits

pub returns-clause-settled : goal.returns-clause-settled
returns-clause-settled g c =
    let i = c.loop-block.invariant in
    loaded_settled (sys_of (λ b. (goal.SimObject-dyn g (b.vtable, b.value)).state b.value) c.args.self.now) (sys_of (λ b. (goal.SimObject-dyn g (b.vtable, b.value)).state b.value) c.enter.new.self) c.args.image.now
    (image_put (sys_of (λ b. (goal.SimObject-dyn g (b.vtable, b.value)).state b.value) c.args.self.now) (sys_of (λ b. (goal.SimObject-dyn g (b.vtable, b.value)).state b.value) c.loop-block.self) (sys_of (λ b. (goal.SimObject-dyn g (b.vtable, b.value)).state b.value) c.enter.new.self) c.args.image.now c.loop-block.blocks i.pieces i.put c.in_default.ensures.end c.enter.ensures.entered) c.requires.fits
