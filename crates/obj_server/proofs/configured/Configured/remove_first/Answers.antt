use Rattle.std.proofs.Common.{rules, ap, ◌∙◌}
use Rattle.obj_server.proofs.Handles.{serve_counted, serve_first, serve_given}
use Rattle.obj_server.proofs.configured.Configured.remove_first.Goals as goal

pub index-requires : goal.index-requires
index-requires g c =
    search (rules, serve_counted c.args.self.now.slots.items _ _ _ (g.met.D.Device.shows_kind c.args.self.now.device) c.args.self.now.own)

pub remove_first-requires-clause-owner : goal.remove_first-requires-clause-owner
remove_first-requires-clause-owner g c =
    ap (λ h. h.owner) (c.index.ensures ∙ serve_first _ _ _ _ _ (g.met.D.Device.shows_kind c.args.self.now.device) c.args.self.now.own)

pub remove_first-requires-clause-slot : goal.remove_first-requires-clause-slot
remove_first-requires-clause-slot g c =
    ap (λ h. h.slot) (c.index.ensures ∙ serve_first _ _ _ _ _ (g.met.D.Device.shows_kind c.args.self.now.device) c.args.self.now.own)

pub remove_first-requires-clause-known : goal.remove_first-requires-clause-known
remove_first-requires-clause-known g c =
    serve_given c.args.q.now.table c.args.self.now.server.object.0 _ _ (g.met.D.Device.shows_kind c.args.self.now.device) c.requires.handles
