-- What has become of the windows that a node had at some tick.
use Rattle.std.proofs.Common.{◌≡◌, ℕ, ◌≤◌, ◌⊎◌, inl, inr, List, [], ◌∷◌, ◌++◌, true, Some, None, Contains, refl, sym, ◌∙◌, ap, subst, arith}
use Rattle.std.proofs.lemmas.List.{append_assoc, append-nil}
use Rattle.std.proofs.lemmas.List.Elements.{Contains-push_cases}
use Rattle.node_core.specs.Windows.{Window}
use Rattle.scenario_text.specs.ScenarioParts.{ScenarioParts}
use Rattle.scenario_text.specs.FloodParts.{knows}
use Rattle.air_log.specs.declared.entry.Entry.{Entry}
use Rattle.air_log.specs.WindowLogs.{WindowLog, Happening, HeardAt, SentAt, Closing}
use Rattle.air_log.specs.Trails.{run_end}
use Rattle.lwb_base.proofs.Elements.{not_in_none}
use Rattle.law_trails.specs.TrailLinks.{device_in}
use Rattle.law_safety.specs.Invariant.{IsObedientRun}
use Rattle.law_safety.specs.Rows.{AllRows}
use Rattle.law_windows.specs.WindowHistory.{tick_of_happening}
use Rattle.law_windows.specs.WindowSteps.{HasWindows, KeepsWindows}
use Rattle.law_windows.proofs.OpenedByRows.{IsOfRows, rows_steps}
use Rattle.law_windows.proofs.WindowWalk.{windows_before, windows_since}

-- more may have happened since in one that was open, and one that had closed is as it was
pub record HasEvolved (since : ℕ) (logs : List WindowLog) (w : WindowLog) : Type 0 where
  pub old : WindowLog
  pub there : Contains logs old
  pub opened : w.opened ≡ old.opened
  pub rank : w.rank ≡ old.rank
  pub more : List Happening
  pub is : w.happenings ≡ old.happenings ++ more
  pub later : (e : Happening) → Contains more e → since ≤ tick_of_happening e
  pub kept : (c : Closing) → old.closed ≡ Some c → w ≡ old

-- or it opened since
abbrev pub IsSince : ℕ → List WindowLog → WindowLog → Type 0
IsSince since logs w = (since ≤ w.opened) ⊎ HasEvolved since logs w

module _ (s : ScenarioParts) (clocks : ℕ → ℕ → ℕ) (air : List Entry) (v : ℕ) (since : ℕ) (logs : List WindowLog) where
  none_closed : (x y : WindowLog) (c : Closing) → x.closed ≡ None → y.closed ≡ Some c → x ≡ y → ⊥
  none_closed x y c none some same = none_some (sym none ∙ ap (λ (w : WindowLog). w.closed) same ∙ some)
    where
      none_some : None ≡ Some c → ⊥
      none_some is = cc

  happens : (x : WindowLog) (e : Happening) (u : Window) → x.closed ≡ None → since ≤ tick_of_happening e → IsSince since logs x → IsSince since logs (record x {
    happenings = x.happenings ++ e ∷ [];
    last = u;
  })
  happens x e u open_ now (inl new) = inl new
  happens x e u open_ now (inr is) = inr (record {
    old = is.old;
    there = is.there;
    opened = is.opened;
    rank = is.rank;
    more = is.more ++ e ∷ [];
    is = ap (λ (l : List Happening). l ++ e ∷ []) is.is ∙ append_assoc is.old.happenings is.more (e ∷ []);
    later = λ d there. elim (Contains-push_cases is.more e d there) [
      | inl before ↦ is.later d before
      | inr same ↦ subst (λ (h : Happening). since ≤ tick_of_happening h) same now
    ];
    kept = λ c closed. absurd (none_closed x is.old c open_ closed (is.kept c closed));
  })

  closes : (x : WindowLog) (c : Closing) → x.closed ≡ None → IsSince since logs x → IsSince since logs (record x { closed = Some c })
  closes x c open_ (inl new) = inl new
  closes x c open_ (inr is) = inr (record {
    old = is.old;
    there = is.there;
    opened = is.opened;
    rank = is.rank;
    more = is.more;
    is = is.is;
    later = is.later;
    kept = λ b closed. absurd (none_closed x is.old b open_ closed (is.kept b closed));
  })

  since_steps : (t : ℕ) → since ≤ t → KeepsWindows s clocks air v (λ now taken w. IsSince since logs w) t
  since_steps t from = record {
    begun = λ d n j fine due on stage. inl from;
    joined = λ d h n y fine next now on stage says rank. inl from;
    heard = λ d h n j w x here next now on stage is in_it known. happens x (HeardAt t h.packet) _ is.open_ from known;
    taken = λ d fine is before now x there. now.each x there;
    sent = λ d y n j w x fine enters own ends on stage waiting is in_it known. happens x (SentAt t y.packet) _ is.open_ from known;
    closed = λ d n j w x fine due on stage is known. closes x _ is.open_ known;
    passed = λ x known. known;
  }

module _ (rows : AllRows) (s : ScenarioParts) (clocks : ℕ → ℕ → ℕ) (air : List Entry) (run : IsObedientRun s clocks air) (v : ℕ)
    (known : knows s.nodes v ≡ true) where
  -- each window is one of those that were there at a tick, or opened since
  pub since_then : (k t : ℕ) → k ≤ t → t ≤ run_end s → (w : WindowLog) → Contains (device_in s clocks air v t).made.windows w
      → IsSince k (device_in s clocks air v k).made.windows w
  since_then k t from within w there =
      let d = device_in s clocks air v k in
      let have = windows_before s clocks air v (λ now taken w. IsOfRows s clocks v w) rows run known (λ u at. rows_steps s clocks v air u) k
      (omega (arith, from, within)) in
      let first : HasWindows s v (IsSince k d.made.windows) k d = record {
        each = λ x in_it. inr (record {
          old = x;
          there = in_it;
          opened = refl;
          rank = refl;
          more = [];
          is = sym (append-nil x.happenings);
          later = λ e none. absurd (not_in_none e none);
          kept = λ c closed. refl;
        });
        past = have.past;
        apart = have.apart;
        stand = have.stand;
        delivered = have.delivered;
      } in
      (windows_since s clocks air v (λ now taken w. IsSince k d.made.windows w) rows run known k
      (λ u later at. since_steps s clocks air v k d.made.windows u later) first t from within).each w there
