use Rattle.std.proofs.Common.{◌≡◌, ◌%◌, get_or, ap, sym, ◌∙◌, arith}
use Rattle.std.proofs.lemmas.Bool.{both_ways}
use Rattle.schedule_codec.specs.Spelling.{spells, slot_fits}
use Rattle.schedule_codec.proofs.Heads.{heads_of, read_spells, body_behind, same_contend, same_schedule}
use Rattle.schedule_codec.proofs.decode.spelled.Goals as goal
use Rattle.schedule_codec.proofs.decode.spelled.Goals.{then-counter-gt11-via-then-counter-gt11}
use Rattle.schedule_codec.proofs.decode.spelled.Goals.{then-counter-gt11-via-else-counter-gt11+then-host_boot-lt1}
use Rattle.schedule_codec.proofs.decode.spelled.Goals.{then-counter-gt11-via-else-counter-gt11+else-host_boot-lt1+then-host_boot-gt-MOST_BOOTS}
use Rattle.schedule_codec.proofs.decode.spelled.Goals.{then-counter-gt11-via-else-counter-gt11+else-host_boot-lt1+else-host_boot-gt-MOST_BOOTS+then-gap-gt-GREATEST_GAP}

pub returns-in_default-clause-all : goal.returns-in_default-clause-all
returns-in_default-clause-all c =
    λ s is.
    let long = (heads_of c.bytes.result.now s (ap (λ l. spells l s) c.bytes.ensures.value ∙ is)).long in
    absurd (omega arith)

pub returns-then-counter-gt11-clause-all : goal.returns-then-counter-gt11-clause-all
returns-then-counter-gt11-clause-all c =
    λ s is.
    let h = heads_of c.bytes.result.now s (ap (λ l. spells l s) c.bytes.ensures.value ∙ is) in
    let count = h.parts.count in
    let boot = h.boot in
    let within = h.parts.boot in
    let gap = h.parts.gap in
    let head = h.head in
    elim c.then-counter-gt11.branch [
      | then-counter-gt11-via-then-counter-gt11 w ↦ absurd (omega arith)
      | then-counter-gt11-via-else-counter-gt11+then-host_boot-lt1 w ↦ absurd (omega arith)
      | then-counter-gt11-via-else-counter-gt11+else-host_boot-lt1+then-host_boot-gt-MOST_BOOTS w ↦ absurd (omega arith)
      | then-counter-gt11-via-else-counter-gt11+else-host_boot-lt1+else-host_boot-gt-MOST_BOOTS+then-gap-gt-GREATEST_GAP w ↦ absurd (omega arith)
    ]

pub returns-in_err-host-clause-all : goal.returns-in_err-host-clause-all
returns-in_err-host-clause-all c =
    λ s is.
    let h = heads_of c.bytes.result.now s (ap (λ l. spells l s) c.bytes.ensures.value ∙ is) in
    let head = h.head in
    let gap = h.parts.gap in
    let rank = h.parts.rank in
    absurd (c.in_err-host.ensures (omega arith))

pub returns-in_err-contend-clause-all : goal.returns-in_err-contend-clause-all
returns-in_err-contend-clause-all c =
    λ s is.
    let h = heads_of c.bytes.result.now s (ap (λ l. spells l s) c.bytes.ensures.value ∙ is) in
    let never = c.in_err-contend.ensures.all s.plan.contend s.plan.acks s.plan.owners (body_behind c.bytes.result.now s h) in
    cc never

pub returns-then-not-slot_fits-clause-all : goal.returns-then-not-slot_fits-clause-all
returns-then-not-slot_fits-clause-all c =
    λ s is.
    let p = c.bytes.result.now in
    let h = heads_of p s (ap (λ l. spells l s) c.bytes.ensures.value ∙ is) in
    let head = h.head in
    let small = h.parts.gap in
    let gap : get_or p 3 0 % 16 ≡ s.gap = omega arith in
    let contend = same_contend c.in_ok-contend.field-0-0 c.in_ok-contend.owners s.plan.owners s.plan.contend s.plan.acks
    (c.in_ok-contend.ensures.all s.plan.contend s.plan.acks s.plan.owners (body_behind p s h)) in
    let fits = ap (λ n. slot_fits n c.in_ok-contend.field-0-0.contend (get_or p 1 0)) gap
    ∙ ap (λ n. slot_fits s.gap n (get_or p 1 0)) contend ∙ h.parts.place in
    absurd (both_ways c.slot_fits.result c.if-not-slot_fits.true (c.slot_fits.ensures ∙ fits))

pub returns-clause-some : goal.returns-clause-some
returns-clause-some c =
    let host = c.in_ok-host.ensures in
    read_spells c.bytes.result.now c.args.p.now c.in_ok-host.host c.in_ok-contend.field-0-0.contend c.in_ok-contend.field-0-0.acks
    c.in_ok-contend.owners c.bytes.ensures.value c.in-len5-up.len_at_least (omega arith) (omega arith) (omega arith)
    (omega arith) host.0 host.1
    (sym c.slot_fits.ensures ∙ c.if-not-slot_fits.false) c.in_ok-contend.ensures.some

pub returns-clause-all : goal.returns-clause-all
returns-clause-all c =
    λ s is.
    let host = c.in_ok-host.ensures in
    same_schedule c.args.p.now _ s
    (read_spells c.bytes.result.now c.args.p.now c.in_ok-host.host c.in_ok-contend.field-0-0.contend c.in_ok-contend.field-0-0.acks
    c.in_ok-contend.owners c.bytes.ensures.value c.in-len5-up.len_at_least (omega arith) (omega arith) (omega arith)
    (omega arith) host.0 host.1
    (sym c.slot_fits.ensures ∙ c.if-not-slot_fits.false) c.in_ok-contend.ensures.some)
    is
