use Rattle.std.proofs.Common.{subst}
use Rattle.std.proofs.lemmas.List.Elements.{recursion_from_All, All-from_recursion}
use Rattle.deadline_plan.specs.Admission.{PlanOfDeadlines, IsDeadlinePlan, grants_of}
use Rattle.deadline_plan.specs.Grants.{AreGrantedInTime}
use Rattle.deadline_plan.specs.Jobs.{IsDeadlineStream, jobs}
use Rattle.deadline_plan.proofs.Earliest.{are_kept}
use Rattle.deadline_plan.proofs.StreamJobs.{InFrames, in_frames}
use Rattle.deadline_plan.proofs.admission.Deadlines.rounds.Goals as goal

kept : (p : PlanOfDeadlines) → IsDeadlinePlan p → AreGrantedInTime (jobs p.frames p.streams) (grants_of p)
kept p is = are_kept p.slots p.frames (jobs p.frames p.streams) (All-from_recursion (InFrames p.frames) (jobs p.frames p.streams)
    (in_frames p.frames p.streams (recursion_from_All IsDeadlineStream p.streams is.streams))) is.fit

pub returns-in_err-waiting-clause-kept : goal.returns-in_err-waiting-clause-kept
returns-in_err-waiting-clause-kept c =
    subst (λ (p : PlanOfDeadlines). AreGrantedInTime (jobs p.frames p.streams) (grants_of p)) c.self.view_is (kept _ c.self.invariant)

pub returns-clause-kept : goal.returns-clause-kept
returns-clause-kept c = subst (λ (p : PlanOfDeadlines). AreGrantedInTime (jobs p.frames p.streams) (grants_of p)) c.self.view_is (kept _ c.self.invariant)
