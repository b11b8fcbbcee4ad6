-- Each step leaves a quiet life quiet.
use Rattle.std.proofs.Common.{◌≡◌, ℕ, ◌+◌, ◌%◌, ◌≤◌, ◌⊎◌, inl, inr, List, [], ◌∷◌, ◌++◌, Bool, true, false, ◌&&◌, ◌==◌, nat_lt, if◌then◌else◌, Some, Contains}
use Rattle.std.proofs.Common.{refl, sym, ◌∙◌, ap, subst, arith, true≢false}
use Rattle.std.proofs.lemmas.Bool.{and_parts, eqb-true, cases_lt}
use Rattle.std.proofs.lemmas.List.Elements.{Contains-push_cases}
use Rattle.lwb_base.specs.Messages.{Plan}
use Rattle.bus_rules.specs.declared.tune.Tune.{Tune}
use Rattle.bus_rules.specs.declared.tune.Tune.TheVariants.{Scan, Hold, Host}
use Rattle.bus_rules.specs.Tuning.{hosts, next_tune, scan_after, is_rank}
use Rattle.lwb_base.proofs.Elements.{not_in_none}
use Rattle.law_trails.specs.Lives.{Life, OpeningMade, ClosingMade, Step, ComesOn, GoesOff, Opens, Closes, Holds, Ends, MayCome, IsPast, after_step, after_steps}
use Rattle.law_trails.specs.Lives.{AllMayCome, plan_after, newborn, Quiet, ByTune, ByPower, HostsQuietly, HostsAreQuiet}

module _ (rank ranks : ℕ) (l : Life) (quiet : Quiet rank l) where
  past_later : (f g : ℕ) → f ≤ g → IsPast l f → IsPast l g
  past_later f g order past = record {
    openings = λ o there. (let a = past.openings o there in omega (arith, a, order));
    closings = λ c there.
        (let a = past.closings c there in omega (arith, a, order));
  }

  comes_on : (frame : ℕ) → l.on ≡ false → l.frame ≤ frame → Quiet rank (after_step rank ranks l (ComesOn frame))
  comes_on frame off order =
      let past : IsPast l l.frame = subst (λ (b : Bool). ByPower rank l b) off quiet.stands in
      let later = past_later l.frame frame order past in
      record {
        opened = λ o there. (let a = quiet.opened o there in omega (arith, a, order));
        closed = λ c there. (let a = quiet.closed c there in omega (arith, a, order));
        gaps = quiet.gaps;
        one_opening = quiet.one_opening;
        one_closing = quiet.one_closing;
        apart = quiet.apart;
        before = quiet.before;
        kept = quiet.kept;
        stands = (omega arith, record { openings = later.openings; closings = later.closings });
      }

  goes_off : (frame : ℕ) → l.frame ≤ frame → IsPast l frame → Quiet rank (after_step rank ranks l (GoesOff frame))
  goes_off frame order past = record {
    opened = λ o there. (let a = past.openings o there in omega (arith, a));
    closed = λ c there. (let a = past.closings c there in omega (arith, a));
    gaps = quiet.gaps;
    one_opening = quiet.one_opening;
    one_closing = quiet.one_closing;
    apart = quiet.apart;
    before = quiet.before;
    kept = quiet.kept;
    stands = record { openings = past.openings; closings = past.closings };
  }

  pub as_host : l.on ≡ true → l.tune ≡ Host rank l.frame → HostsQuietly rank l rank l.frame
  as_host on tune = subst (λ (t : Tune). ByTune rank l t) tune (subst (λ (b : Bool). ByPower rank l b) on quiet.stands)

  opens : l.on ≡ true → l.tune ≡ Host rank l.frame → Quiet rank (after_step rank ranks l Opens)
  opens on tune =
      let h = as_host on tune in
      record {
        opened = λ o there. elim (cases o there) [ inl old ↦ quiet.opened o old | inr is ↦ (let a = ap (λ (x : OpeningMade). x.frame) is in omega (arith, a)) ];
        closed = quiet.closed;
        gaps = quiet.gaps;
        one_opening = λ o e in_o in_e same. elim (cases o in_o) [
          | inl old ↦ elim (cases e in_e) [
            | inl older ↦ quiet.one_opening o e old older same
            | inr is ↦ h.opened refl o old
                (same ∙ sym (ap (λ (x : OpeningMade). x.frame) is)) ∙ ap (λ (x : OpeningMade). x.plan) is
          ]
          | inr at ↦ elim (cases e in_e) [
            | inl older ↦ sym (h.opened refl e older (sym same ∙ sym (ap (λ (x : OpeningMade). x.frame) at)) ∙ ap (λ (x : OpeningMade). x.plan) at)
            | inr is ↦ sym (ap (λ (x : OpeningMade). x.plan) at) ∙ ap (λ (x : OpeningMade). x.plan) is
          ]
        ];
        one_closing = quiet.one_closing;
        apart = quiet.apart;
        before = λ c o in_c in_o less. elim (cases o in_o) [
          | inl old ↦ quiet.before c o in_c old less
          | inr is ↦
              (let a = h.closed c in_c in let b = ap (λ (x : OpeningMade). x.frame) is in omega (arith, a, b))
        ];
        kept = λ c o in_c in_o due. elim (cases o in_o) [
          | inl old ↦ quiet.kept c o in_c old due
          | inr is ↦ h.planned c in_c
              (due ∙ sym (ap (λ (x : OpeningMade). x.frame) is)) ∙ ap (λ (x : OpeningMade). x.plan) is
        ];
        stands = subst (λ (b : Bool). ByPower rank (after_step rank ranks l Opens) b) (sym on)
            (subst (λ (t : Tune). ByTune rank (after_step rank ranks l Opens) t) (sym tune) (record {
              own = refl;
              ahead = h.ahead;
              waited = h.waited;
              closed = h.closed;
              planned = h.planned;
              unclosed = h.unclosed;
              opened = λ is o there same. elim (cases o there) [ inl old ↦ h.opened is o old same | inr at ↦ sym (ap (λ (x : OpeningMade). x.plan) at) ];
            }));
      }
    where
      cases : (o : OpeningMade) → Contains (l.openings ++ record { frame = l.frame; plan = l.plan } ∷ []) o
          → Contains l.openings o ⊎ (record { frame = l.frame; plan = l.plan } ≡ o)
      cases o there = Contains-push_cases l.openings (record { frame = l.frame; plan = l.plan }) o there

  closes : (gap : ℕ) (plan : Plan) → l.on ≡ true → l.tune ≡ Host rank l.frame → 1 ≤ gap → gap ≤ 4 → Quiet rank (after_step rank ranks l (Closes gap plan))
  closes gap plan on tune some few =
      let h = as_host on tune in
      record {
        opened = quiet.opened;
        closed = λ c there. elim (cases c there) [ inl old ↦ quiet.closed c old | inr is ↦ (let a = ap (λ (x : ClosingMade). x.frame) is in omega (arith, a)) ];
        gaps = λ c there. elim (cases c there) [
          | inl old ↦ quiet.gaps c old
          | inr is ↦
              (let a = ap (λ (x : ClosingMade). x.gap) is in (omega (arith, a, some), omega (arith, a, few)))
        ];
        one_opening = quiet.one_opening;
        one_closing = λ c d in_c in_d same. elim (cases c in_c) [
          | inl old ↦ elim (cases d in_d) [
            | inl older ↦ quiet.one_closing c d old older same
            | inr is ↦ absurd
                (let a = h.unclosed refl c old in let b = ap (λ (x : ClosingMade). x.frame) is in omega (arith, a, b, same))
          ]
          | inr at ↦ elim (cases d in_d) [
            | inl older ↦ absurd
                (let a = h.unclosed refl d older in let b = ap (λ (x : ClosingMade). x.frame) at in omega (arith, a, b, same))
            | inr is ↦ sym at ∙ is
          ]
        ];
        apart = λ c d in_c in_d less. elim (cases c in_c) [
          | inl old ↦ elim (cases d in_d) [
            | inl older ↦ quiet.apart c d old older less
            | inr is ↦
                (let a = h.closed c old in let b = ap (λ (x : ClosingMade). x.frame) is in omega (arith, a, b))
          ]
          | inr at ↦ elim (cases d in_d) [
            | inl older ↦ absurd (let a = quiet.closed d older in let b = ap (λ (x : ClosingMade). x.frame) at in omega (arith, a, b, less))
            | inr is ↦ absurd (let a = ap (λ (x : ClosingMade). x.frame) at in let b = ap (λ (x : ClosingMade). x.frame) is in omega (arith, a, b, less))
          ]
        ];
        before = λ c o in_c in_o less. elim (cases c in_c) [
          | inl old ↦ quiet.before c o old in_o less
          | inr at ↦ absurd
              (let a = quiet.opened o in_o in let b = ap (λ (x : ClosingMade). x.frame) at in omega (arith, a, b, less))
        ];
        kept = λ c o in_c in_o due. elim (cases c in_c) [
          | inl old ↦ quiet.kept c o old in_o due
          | inr at ↦ absurd (let a = quiet.opened o in_o in let b = ap (λ (x : ClosingMade). x.frame) at in let g = ap
              (λ (x : ClosingMade). x.gap) at in omega (arith, a, b, g, due, some))
        ];
        stands = subst (λ (b : Bool). ByPower rank (after_step rank ranks l (Closes gap plan)) b) (sym on) (record {
          own = refl;
          ahead = omega arith;
          waited = (let a = h.waited in omega (arith, a));
          closed = λ c there. elim (cases c there) [
            | inl old ↦ (let a = h.closed c old in omega (arith, a))
            | inr is ↦
                (let a = ap (λ (x : ClosingMade). x.frame) is in let g = ap (λ (x : ClosingMade). x.gap) is in omega (arith, a, g))
          ];
          planned = λ c there due. elim (cases c there) [
            | inl old ↦ absurd (let a = h.closed c old in omega (arith, a, due, some))
            | inr is ↦ sym
                (ap (λ (x : ClosingMade). x.plan) is)
          ];
          unclosed = λ is. absurd (omega (arith, is, some));
          opened = λ is. absurd (omega (arith, is, some));
        });
      }
    where
      cases : (c : ClosingMade) → Contains (l.closings ++ record { frame = l.frame; gap = gap; plan = plan } ∷ []) c
          → Contains l.closings c ⊎ (record { frame = l.frame; gap = gap; plan = plan } ≡ c)
      cases c there = Contains-push_cases l.closings (record { frame = l.frame; gap = gap; plan = plan }) c there

  as_guest : (t : Tune) → hosts t ≡ false → ByTune rank l t → (l.boot ≤ l.frame) × IsPast l l.boot
  as_guest (Scan r w) guest is = (omega (arith, is.0), is.1)
  as_guest (Hold r due) guest is = is
  as_guest (Host r due) guest is = absurd (true≢false guest)

  holds : (r due : ℕ) → l.on ≡ true → hosts l.tune ≡ false → Quiet rank (after_step rank ranks l (Holds r due))
  holds r due on guest =
      let g = as_guest l.tune guest (subst (λ (b : Bool). ByPower rank l b) on quiet.stands) in
      record {
        opened = quiet.opened;
        closed = quiet.closed;
        gaps = quiet.gaps;
        one_opening = quiet.one_opening;
        one_closing = quiet.one_closing;
        apart = quiet.apart;
        before = quiet.before;
        kept = quiet.kept;
        stands = subst (λ (b : Bool). ByPower rank (after_step rank ranks l (Holds r due)) b) (sym on)
            (g.0, record { openings = g.1.openings; closings = g.1.closings });
      }

  -- the frame ends, and the next one begins with any tune and plan
  abbrev next : Tune → Plan → Life
  next t p = record l { tune = t; plan = p; frame = l.frame + 1 }

  module _ (joined : Bool) (T : Tune) (p : Plan) where
    scan_ends : (r w : ℕ) → l.boot + w ≤ l.frame → IsPast l l.boot → (j : Bool) → ByTune rank (next T p) (scan_after r w l.frame j (Some rank) ranks)
    scan_ends r w waited past true = (omega (arith, waited), record { openings = past.openings; closings = past.closings })
    scan_ends r w waited past false = first (is_rank (Some rank) r && (w + 1 == 5)) refl
      where
        second : (b : Bool) → ByTune rank (next T p) (if b then Scan ((r + 1) % ranks) 0 else Scan r (w + 1))
        second true = (omega (arith, waited), record { openings = past.openings; closings = past.closings })
        second false = (omega (arith, waited), record { openings = past.openings; closings = past.closings })

        first : (b : Bool) → (is_rank (Some rank) r && (w + 1 == 5)) ≡ b
            → ByTune rank (next T p) (if b then Host r (l.frame + 1) else if w + 1 == 12 then Scan ((r + 1) % ranks) 0 else Scan r (w + 1))
        first false is = second (w + 1 == 12)
        first true is =
            let both = and_parts _ _ is in
            let five = eqb-true (w + 1) 5 both.1 in
            record {
              own = sym (eqb-true rank r both.0);
              ahead = omega arith;
              waited = omega (arith, waited, five);
              closed = λ c there. (let a = past.closings c there in let g = quiet.gaps c there in omega (arith, a, g.1, waited, five));
              planned = λ c there due. absurd (let a = past.closings c there in let g = quiet.gaps c there in omega (arith, a, g.1, waited, five, due));
              unclosed = λ is c there. (let a = past.closings c there in omega (arith, a, waited));
              opened = λ is o there same. absurd (let a = past.openings o there in omega (arith, a, waited, same));
            }

  ends_by : (joined : Bool) (p : Plan) (T t : Tune) → ByTune rank l t → (t ≡ Host rank l.frame → ⊥)
      → ByTune rank (next T (plan_after t (next_tune t l.frame joined (Some rank) ranks) l.plan p)) (next_tune t l.frame joined (Some rank) ranks)
  ends_by joined p T (Host r due) h over = record {
    own = h.own;
    ahead = (let a = h.ahead in elim (cases_lt l.frame due) [
      | inl less ↦ omega (arith, less)
      | inr at ↦ absurd
          (over (ap (λ (n : ℕ). Host n due) h.own ∙ ap (λ (n : ℕ). Host rank n) (omega (arith, a, at))))
    ]);
    waited = h.waited;
    closed = h.closed;
    planned = h.planned;
    unclosed = λ is c there. (let a = quiet.closed c there in omega (arith, a));
    opened = λ is o there same. absurd (let a = quiet.opened o there in omega (arith, a, same));
  }
  ends_by joined p T (Hold r due) h over = by_test (nat_lt l.frame due)
    where
      by_test : (b : Bool) → ByTune rank (next T (plan_after (Hold r due) (next_tune (Hold r due) l.frame joined (Some rank) ranks) l.plan p))
          (if b then Hold r due else Scan r 0)
      by_test true = (omega (arith, h.0), record { openings = h.1.openings; closings = h.1.closings })
      by_test false = (omega (arith, h.0), record { openings = h.1.openings; closings = h.1.closings })
  ends_by joined p T (Scan r w) h over = scan_ends joined T (plan_after (Scan r w)
      (next_tune (Scan r w) l.frame joined (Some rank) ranks) l.plan p) r w h.0 h.1 joined

  ends : (joined : Bool) (p : Plan) → l.on ≡ true → (l.tune ≡ Host rank l.frame → ⊥) → Quiet rank (after_step rank ranks l (Ends joined p))
  ends joined p on over = record {
    opened = λ o there. (let a = quiet.opened o there in omega (arith, a));
    closed = λ c there. (let a = quiet.closed c there in omega (arith, a));
    gaps = quiet.gaps;
    one_opening = quiet.one_opening;
    one_closing = quiet.one_closing;
    apart = quiet.apart;
    before = quiet.before;
    kept = quiet.kept;
    stands = subst (λ (b : Bool). ByPower rank (after_step rank ranks l (Ends joined p)) b) (sym on)
        (ends_by joined p (next_tune l.tune l.frame joined (Some rank) ranks) l.tune (subst (λ (b : Bool). ByPower rank l b) on quiet.stands) over);
  }

  pub step_quiet : (x : Step) → MayCome rank l x → Quiet rank (after_step rank ranks l x)
  step_quiet (ComesOn frame) may = comes_on frame may.0 may.1
  step_quiet (GoesOff frame) may = goes_off frame may.1 may.2
  step_quiet Opens may = opens may.0 may.1
  step_quiet (Closes gap plan) may = closes gap plan may.0 may.1 may.2 may.3
  step_quiet (Holds r due) may = holds r due may.0 may.1
  step_quiet (Ends joined plan) may = ends joined plan may.0 may.1

pub born_quiet : (rank : ℕ) → Quiet rank newborn
born_quiet rank = record {
  opened = λ o there. absurd (not_in_none o there);
  closed = λ c there. absurd (not_in_none c there);
  gaps = λ c there. absurd (not_in_none c there);
  one_opening = λ o e there. absurd (not_in_none o there);
  one_closing = λ c d there. absurd (not_in_none c there);
  apart = λ c d there. absurd (not_in_none c there);
  before = λ c o there. absurd (not_in_none c there);
  kept = λ c o there. absurd (not_in_none c there);
  stands = record { openings = λ o there. absurd (not_in_none o there); closings = λ c there. absurd (not_in_none c there) };
}

all_quiet : (rank ranks : ℕ) (xs : List Step) (l : Life) → Quiet rank l → AllMayCome rank ranks l xs → Quiet rank (after_steps rank ranks l xs)
unfolding after_steps AllMayCome
all_quiet rank ranks [] l quiet may = quiet
all_quiet rank ranks (x ∷ xs) l quiet may = all_quiet rank ranks xs (after_step rank ranks l x) (step_quiet rank ranks l quiet x may.0) may.1

pub hosts_are_quiet : HostsAreQuiet
hosts_are_quiet rank ranks xs may = all_quiet rank ranks xs newborn (born_quiet rank) may
