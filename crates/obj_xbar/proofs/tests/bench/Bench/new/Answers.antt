use Rattle.std.proofs.Common.{◌-◌, arith}
use Rattle.gm_words.specs.PortUses.{used}
use Rattle.obj_xbar.proofs.GivenLemmas.{counted, response_part, request_part, device_part, cpu_part, all_given}
use Rattle.obj_xbar.proofs.tests.bench.Bench.new.Goals as goal

pub configure-requires-clause-handles : goal.configure-requires-clause-handles
configure-requires-clause-handles g c =
    let us = used c.args.ports in
    let a = c.request_layers-requests in
    let n = counted c.used-uses.result.now us a.result c.fore.result _ c.used-uses.ensures.value a.ensures.value c.fore.ensures.value (omega arith) in
    record {
      response = response_part us _ _ _ n c.in_ok-response.ensures.handles;
      request = request_part us _ _ _ _ n c.in_ok-request.ensures.handles (omega arith);
      devices = device_part us _ c.new-2.ensures.items;
      cpus = cpu_part us _ c.new-3.ensures.items;
    }

pub invariant_of-result-clause-given : goal.invariant_of-result-clause-given
invariant_of-result-clause-given g c =
    let us = used c.args.ports in
    let a = c.request_layers-requests in
    let n = counted c.used-uses.result.now us a.result c.fore.result _ c.used-uses.ensures.value a.ensures.value c.fore.ensures.value (omega arith) in
    all_given us _ _ (a.result - 0) c.handles.new.queue.table c.handles-2.new.queue.table n c.in_ok-request.ensures.given c.in_ok-response.ensures.stay
    c.in_ok-response.ensures.given (omega arith)
