-- What a call leaves in the queue of events. This project's own rule.
use Rattle.std.specs.Prelude.{List}
use Rattle.ev_queue.specs.Queue.{Queue}
use Rattle.gm_model.specs.ObjState.{ObjState, object_of}
use Rattle.gm_words.specs.Changes.{Change, changed}

-- the queue after a part's changes to its own events
abbrev pub with_changes : Queue → ObjState → List Change → Queue
with_changes q s changes = record q { pending = changed (object_of s) q.pending changes }
