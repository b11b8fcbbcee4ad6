use Rattle.foldcairn_plan.proofs.call.PlanTopCallProcessCall.call.Goals as goal

pub returns : goal.returns
returns g c = record {
  known = c.plan_top.ensures.known;
  report = c.plan_top.ensures.report;
  fault = c.plan_top.ensures.fault;
  usage = c.plan_top.ensures.usage;
  read_fault = c.plan_top.ensures.read_fault;
  write_fault = c.plan_top.ensures.write_fault;
  memory = c.plan_top.ensures.memory;
  source_later = c.plan_top.ensures.source_later;
  sink_later = c.plan_top.ensures.sink_later;
  complete = c.plan_top.ensures.complete;
  complete_usage = c.plan_top.ensures.complete_usage;
  untouched = c.plan_top.ensures.untouched;
}
