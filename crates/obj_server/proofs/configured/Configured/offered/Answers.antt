use Rattle.std.proofs.Common.{rules, ap, ◌∙◌}
use Rattle.obj_server.proofs.Handles.{serve_counted, serve_first, serve_given}
use Rattle.obj_server.proofs.configured.Configured.offered.Goals as goal

pub index-requires : goal.index-requires
index-requires g c =
    search (rules, serve_counted c.args.self.now.slots.items _ _ _ (g.met.D.Device.shows_kind c.args.self.now.device) c.args.self.now.own)

pub offered-requires-clause-owner : goal.offered-requires-clause-owner
offered-requires-clause-owner g c =
    ap (λ h. h.owner) (c.index.ensures ∙ serve_first _ _ _ _ _ (g.met.D.Device.shows_kind c.args.self.now.device) c.args.self.now.own)

pub offered-requires-clause-slot : goal.offered-requires-clause-slot
offered-requires-clause-slot g c =
    ap (λ h. h.slot) (c.index.ensures ∙ serve_first _ _ _ _ _ (g.met.D.Device.shows_kind c.args.self.now.device) c.args.self.now.own)

pub offered-requires-clause-known : goal.offered-requires-clause-known
offered-requires-clause-known g c =
    serve_given c.args.q.now.table c.args.self.now.server.object.0 _ _ (g.met.D.Device.shows_kind c.args.self.now.device) c.requires.handles
