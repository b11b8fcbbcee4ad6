use Rattle.std.proofs.Common.{inl, inr, refl, sym, ◌∙◌, subst, arith, string_bytes, List, ℕ}
use Rattle.command_line.specs.Streams.{too_long}
use Rattle.command_line.specs.TextsDue.{IsFaultDue, IsFaultLine, IsReportDue}
use Rattle.command_line.proofs.TextsDue.{text_or_fault}
use Rattle.command_line.proofs.WholeInputs.{part_due}
use Rattle.command_line.proofs.top_call.top.Goals as goal

-- the words ask for the command that was found
pub answer-requires-clause-asked : goal.answer-requires-clause-asked
answer-requires-clause-asked g c = (c.args.words.now, (c.of_words.ensures c.in-Some.command).0 c.in-Some.is)

-- where more bytes came than are allowed
pub returns-in-Err-TooLong-clause-write_fault : goal.returns-in-Err-TooLong-clause-write_fault
returns-in-Err-TooLong-clause-write_fault g c =
    λ failed.
    let part = c.say-in-Err-TooLong.ensures.part (λ same. omega (arith, failed, same, c.without_log-in-Err-TooLong.ensures.status)) in
    let read = rw c.in-Err-TooLong.field-0-is at c.in-Err-TooLong.ensures.bytes in
    let due : IsFaultDue g.C.ProgramCommand.asks g.C.ProgramCommand.reads g.C.ProgramCommand.fault_of c.args.words.now
    (g.S.Source.left c.args.source.now) (g.S.Source.left c.input.new.source) too_long =
    (c.in-Some.command, (c.of_words.ensures c.in-Some.command).0 c.in-Some.is, sym c.reads.ensures ∙ read.0, inr (read.1, refl)) in (
      part.1,
      part_due _ _ _ too_long (inr (inl due, c.without_log-in-Err-TooLong.ensures.log)) part.0,
    )

-- where the bytes read are a text
pub returns-in-Ok-Report-clause-write_fault : goal.returns-in-Ok-Report-clause-write_fault
returns-in-Ok-Report-clause-write_fault g c =
    λ failed.
    let command = c.in-Some.command in
    let log = c.in-Ok-Report.log in
    let text = string_bytes c.in-Ok-Report.text in
    let part = c.say-status.ensures.part (λ same. omega (arith, failed, same)) in
    let answer : g.C.ProgramCommand.reports command c.deref.result.now log text = rw c.in-Ok-Report.field-0-is at c.in-Ok-Report.ensures in
    let due : IsReportDue g.C.ProgramCommand.asks g.C.ProgramCommand.reads (λ d b. g.C.ProgramCommand.reports d b log) c.args.words.now
    (g.S.Source.left c.args.source.now) (g.S.Source.left c.input.new.source) text = (
      command,
      c.in-Ok.bytes.items,
      (c.of_words.ensures command).0 c.in-Some.is,
      rw (← c.reads.ensures) c.in-Ok.ensures.bytes.0,
      subst (λ (b : List ℕ). g.C.ProgramCommand.reports command b log text) c.deref.ensures.value answer,
    ) in (
      part.1,
      part_due _ _ _ c.as_bytes.result.now (inl (rw c.as_bytes.ensures.value due)) part.0,
    )

-- where they have a fault
pub returns-in-Ok-Fault-clause-write_fault : goal.returns-in-Ok-Fault-clause-write_fault
returns-in-Ok-Fault-clause-write_fault g c =
    λ failed.
    let command = c.in-Some.command in
    let text = string_bytes c.in-Ok-Fault.text in
    let part = c.say-in-Ok-Fault.ensures.part (λ same. omega (arith, failed, same, c.without_log-in-Ok-Fault.ensures.status)) in
    let answer : IsFaultLine (g.C.ProgramCommand.fault_of command c.deref.result.now) text = rw c.in-Ok-Fault.field-0-is at c.in-Ok-Fault.ensures in
    let fault : IsFaultLine (g.C.ProgramCommand.fault_of command c.in-Ok.bytes.items) text =
    subst (λ (b : List ℕ). IsFaultLine (g.C.ProgramCommand.fault_of command b) text) c.deref.ensures.value answer in
    let due : IsFaultDue g.C.ProgramCommand.asks g.C.ProgramCommand.reads g.C.ProgramCommand.fault_of c.args.words.now
    (g.S.Source.left c.args.source.now) (g.S.Source.left c.input.new.source) text = (
      command,
      (c.of_words.ensures command).0 c.in-Some.is,
      elim (g.met.C.ProgramCommand.reads_or_none command c.in-Ok.bytes.items) [
        | inl reads ↦ reads
        | inr none ↦ absurd (text_or_fault _ fault.line fault.kind none fault.said)
      ],
      inl (c.in-Ok.bytes.items, rw (← c.reads.ensures) c.in-Ok.ensures.bytes.0, fault),
    ) in (
      part.1,
      part_due _ _ _ c.as_bytes-in-Ok-Fault.result.now
          (inr (inl (rw c.as_bytes-in-Ok-Fault.ensures.value due), c.without_log-in-Ok-Fault.ensures.log)) part.0,
    )

-- where its report is written in parts
pub returns-in-Ok-Parts-clause-write_fault : goal.returns-in-Ok-Parts-clause-write_fault
returns-in-Ok-Parts-clause-write_fault g c =
    λ failed.
    let command = c.in-Some.command in
    let log = c.without_log-in-Ok-Parts.result.log in
    let status = c.without_log-in-Ok-Parts.ensures.status in
    let text = g.C.Parts.ReportInParts.text c.in-Ok-Parts.report in
    let answer = rw c.in-Ok-Parts.field-0-is at c.in-Ok-Parts.ensures in
    let report : g.C.ProgramCommand.reports command c.deref.result.now log text = rw c.without_log-in-Ok-Parts.ensures.log answer.1 in
    let due : IsReportDue g.C.ProgramCommand.asks g.C.ProgramCommand.reads (λ d b. g.C.ProgramCommand.reports d b log) c.args.words.now
    (g.S.Source.left c.args.source.now) (g.S.Source.left c.input.new.source) text = (
      command,
      c.in-Ok.bytes.items,
      (c.of_words.ensures command).0 c.in-Some.is,
      rw (← c.reads.ensures) c.in-Ok.ensures.bytes.0,
      subst (λ (b : List ℕ). g.C.ProgramCommand.reports command b log text) c.deref.ensures.value report,
    ) in (
      c.write.ensures.fault (sym status ∙ failed),
      part_due _ _ _ text (inl due) (c.write.ensures.part (λ same. omega (arith, failed, same, status))),
    )
