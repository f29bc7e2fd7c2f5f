use Rattle.kernel.proofs.Changes.{put_sound}
use Rattle.kernel.proofs.SettledLemmas.{put_settled}
use Rattle.kernel.proofs.machine.Machine.put_raw.Goals as goal

pub returns-clause-machine : goal.returns-clause-machine
returns-clause-machine g c = record {
  sound = put_sound _ _ _ _ c.args.addr c.args.from.now c.requires.machine.sound c.requires.least c.requires.most c.write_ram.ensures.raw c.write_ram.ensures.table;
}

pub returns-clause-settled : goal.returns-clause-settled
returns-clause-settled g c h = put_settled _ _ _ c.args.from.now c.write_ram.ensures.raw h
