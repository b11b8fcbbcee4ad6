-- A host that is off and says nothing is quiet: what it said before is over by the time it hosts again.
use Rattle.std.proofs.Common.{◌≡◌, ℕ, ◌+◌, ◌<◌, ◌≤◌, List, [], ◌∷◌, ◌++◌, true, Contains, sym, arith, true≢false}
use Rattle.bus_rules.specs.declared.tune.Tune.TheVariants.{Host}
use Rattle.bus_rules.specs.Tuning.{hosts}
use Rattle.lwb_base.proofs.Elements.{contains_head, contains_tail}
use Rattle.law_trails.specs.Lives.{Life, ClosingMade, Step, ComesOn, GoesOff, Opens, Closes, Holds, Ends, MayCome, after_step, after_steps, AllMayCome, newborn}
use Rattle.law_trails.specs.Lives.{Quiet, SaysNothing, QuietPeriod}
use Rattle.law_trails.proofs.LifeSteps.{as_host, hosts_are_quiet}

-- since it went off in frame b
record Since (b : ℕ) (l : Life) : Type 0 where
  behind : b ≤ l.frame
  booted : l.on ≡ true → b ≤ l.boot
  closed : (c : ClosingMade) → Contains l.closings c → c.frame < b

since_step : (rank ranks b : ℕ) (l : Life) (x : Step) → SaysNothing x → MayCome rank l x → Since b l → Since b (after_step rank ranks l x)
since_step rank ranks b l (ComesOn frame) says may since = record {
  behind = omega (arith, since.behind, may.1);
  booted = λ is. omega
      (arith, since.behind, may.1);
  closed = since.closed;
}
since_step rank ranks b l (GoesOff frame) says may since = record {
  behind = omega (arith, since.behind, may.1);
  booted = λ is. absurd
      (true≢false (sym is));
  closed = since.closed;
}
since_step rank ranks b l Opens says may since = absurd says
since_step rank ranks b l (Closes gap plan) says may since = absurd says
since_step rank ranks b l (Holds r due) says may since = record { behind = since.behind; booted = since.booted; closed = since.closed }
since_step rank ranks b l (Ends joined plan) says may since = record {
  behind =
      (let a = since.behind in omega (arith, a));
  booted = since.booted;
  closed = since.closed;
}

since_steps : (rank ranks b : ℕ) (ys : List Step) (l : Life) → ((y : Step) → Contains ys y → SaysNothing y) → AllMayCome rank ranks l ys → Since b l
    → Since b (after_steps rank ranks l ys)
unfolding after_steps AllMayCome
since_steps rank ranks b [] l says may since = since
since_steps rank ranks b (y ∷ ys) l says may since =
    since_steps rank ranks b ys (after_step rank ranks l y) (λ x there. says x (contains_tail y ys x there)) may.1
    (since_step rank ranks b l y (says y (contains_head y ys)) may.0 since)

since_off : (rank ranks b : ℕ) (xs ys : List Step) (l : Life) → ((y : Step) → Contains ys y → SaysNothing y)
    → AllMayCome rank ranks l (xs ++ GoesOff b ∷ ys) → Since b (after_steps rank ranks l (xs ++ GoesOff b ∷ ys))
unfolding after_steps AllMayCome
since_off rank ranks b [] ys l says may =
    let past = may.0.2 in
    since_steps rank ranks b ys (after_step rank ranks l (GoesOff b)) says may.1
    (record { behind = omega arith; booted = λ is. absurd (true≢false (sym is)); closed = past.closings })
since_off rank ranks b (x ∷ xs) ys l says may = since_off rank ranks b xs ys (after_step rank ranks l x) says may.1

quiet_from : (rank b : ℕ) (l : Life) → Quiet rank l → Since b l
    → ((c : ClosingMade) → Contains l.closings c → c.frame + c.gap ≤ b + 3) × (hosts l.tune ≡ true → l.on ≡ true → l.tune ≡ Host rank l.frame → b + 5 ≤ l.frame)
quiet_from rank b l quiet since = (
  λ c there. (let a = since.closed c there in let g = quiet.gaps c there in omega (arith, a, g.1)),
  λ hosting on tune. (let h = as_host rank 0 l quiet on tune in let a = since.booted on in let w = h.waited in omega (arith, a, w)),
)

pub quiet_period : QuietPeriod
quiet_period rank ranks b xs ys may says = quiet_from rank b (after_steps rank ranks newborn (xs ++ GoesOff b ∷ ys))
    (hosts_are_quiet rank ranks (xs ++ GoesOff b ∷ ys) may) (since_off rank ranks b xs ys newborn says may)
