use Rattle.foldcairn.proofs.call.TopCallProcessCall.call.Goals as goal

pub returns : goal.returns
returns g c = (
  c.top.result.air,
  record {
    known = c.top.ensures.known;
    report = c.top.ensures.report;
    fault = c.top.ensures.fault;
    usage = c.top.ensures.usage;
    read_fault = c.top.ensures.read_fault;
    write_fault = c.top.ensures.write_fault;
    memory = c.top.ensures.memory;
    no_log = c.top.ensures.no_log;
    source_later = c.top.ensures.source_later;
    sink_later = c.top.ensures.sink_later;
    complete = c.top.ensures.complete;
    complete_usage = c.top.ensures.complete_usage;
    untouched = c.top.ensures.untouched;
  },
)
