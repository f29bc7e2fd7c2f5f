use Rattle.std.proofs.Common.{◌≡◌, ◌++◌, IsTrue, drop}
use Rattle.gm_words.specs.Platform.{own_classes}
use Rattle.obj_core.specs.Handles.{handles_from, handles_of}
use Rattle.kernel.specs.Build.{AreFree, all_granted, are_kept}
use Rattle.kernel.proofs.build.all_handles.Given as goal

-- with the handles of the slots that are left, all are there
abbrev pub invariant-loop-slot : goal.invariant-loop-slot
invariant-loop-slot l = record {
  classes : l.classes.items ≡ own_classes l.params.own;
  response : l.handles.response.items ++ handles_from l.params.object.0 0 l.slot (drop l.slot (own_classes l.params.own))
      ≡ handles_of l.params.object.0 l.params.own 0;
  request : l.handles.request.items ++ handles_from l.params.object.0 10 l.slot (drop l.slot (own_classes l.params.own))
      ≡ handles_of l.params.object.0 l.params.own 10;
  devices : l.handles.device.items ++ handles_from l.params.object.0 30 l.slot (drop l.slot (own_classes l.params.own))
      ≡ handles_of l.params.object.0 l.params.own 30;
  cpus : l.handles.cpu.items ++ handles_from l.params.object.0 50 l.slot (drop l.slot (own_classes l.params.own))
      ≡ handles_of l.params.object.0 l.params.own 50;
  kept : IsTrue (are_kept (own_classes l.params.own));
  free : AreFree l.queue.table l.params.object.0 l.slot (drop l.slot (own_classes l.params.own));
  table : all_granted l.queue.table l.params.object.0 l.slot (drop l.slot (own_classes l.params.own))
      ≡ all_granted l.initial.queue.table l.params.object.0 0 (own_classes l.params.own);
  pending : l.queue.pending ≡ l.initial.queue.pending;
}
