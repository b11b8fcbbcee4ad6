use Rattle.std.proofs.Common.{◌≡◌, ◌≤◌, ◌∙◌, ◌++◌, [], ◌∷◌, ℕ, Bool, true, List, Option, Some, length, get_or, take, if◌then◌else◌, sym, ap, subst, arith}
use Rattle.std.proofs.lemmas.List.{take_more, length-take-le}
use Rattle.std.specs.Option.{SomeIff}
use Rattle.schedule_codec.specs.OwnerLists.{takes_owner}
use Rattle.stream_table.specs.Entries.{grant_owner}
use Rattle.host_scheduler.proofs.Counted.{granted_more, nothing_granted, still_there, still_few, follows}
use Rattle.host_scheduler.proofs.plan.grant.Goals as goal

value_of : (P : Type 0) (o : Option ℕ) (v x : ℕ) → SomeIff o P v → o ≡ Some x → x ≡ v
value_of P o v x iff is = (subst (λ (p : Option ℕ). SomeIff p P v) is iff).1

pub loop-code-init : goal.loop-code-init
loop-code-init c = record { owners = c.new-owners.ensures; table = nothing_granted c.args.table.now }

pub grant-requires-clause-granted : goal.grant-requires-clause-granted
grant-requires-clause-granted c =
    let i = c.loop-code.code-index in
    let codes = c.args.codes.now in
    let this : c.unwrap-owner.result ≡ get_or codes i 0 = value_of _ c.from_code.result _ c.unwrap-owner.result c.from_code.ensures c.unwrap-owner.ensures in
    let grantable = c.requires.grantable i 0 c.loop-code-test.true in
    let cut : length (take i codes) ≤ 40 = omega (arith, length-take-le i codes (omega arith), c.requires.few) in
    let few = still_few (take i codes) (get_or codes i 0) c.args.table.now.entries cut grantable.few in
    rw (c.loop-code.invariant.table, this) few

pub grant-requires-clause-there : goal.grant-requires-clause-there
grant-requires-clause-there c =
    let i = c.loop-code.code-index in
    let codes = c.args.codes.now in
    let this : c.unwrap-owner.result ≡ get_or codes i 0 = value_of _ c.from_code.result _ c.unwrap-owner.result c.from_code.ensures c.unwrap-owner.ensures in
    let grantable = c.requires.grantable i 0 c.loop-code-test.true in
    let there = still_there (take i codes) (get_or codes i 0) c.args.table.now.entries grantable.there in
    rw (c.loop-code.invariant.table, this) there

pub loop-code-preserved : goal.loop-code-preserved
loop-code-preserved c =
    let i = c.loop-code.code-index in
    let codes = c.args.codes.now in
    let x = c.unwrap-owner.result in
    let this : x ≡ get_or codes i 0 = value_of _ c.from_code.result _ x c.from_code.ensures c.unwrap-owner.ensures in
    let takes : c.add.result ≡ true = c.add.ensures.answer ∙ ap (λ (l : List ℕ). takes_owner l x) c.loop-code.invariant.owners
    ∙ follows codes i x c.requires.ascend c.requires.few c.loop-code-test.true this in
    record {
      owners = c.add.ensures.list ∙ ap (λ (b : Bool). if b then c.loop-code.owners ++ x ∷ [] else c.loop-code.owners) takes
          ∙ ap (λ (l : List ℕ). l ++ x ∷ []) c.loop-code.invariant.owners
          ∙ ap (λ (y : ℕ). take i codes ++ y ∷ []) this ∙ sym (take_more codes i 0 c.loop-code-test.true);
      table = granted_more codes i x c.args.table.now _ c.loop-code-test.true this (c.grant.ensures ∙ ap (grant_owner x) c.loop-code.invariant.table);
    }
