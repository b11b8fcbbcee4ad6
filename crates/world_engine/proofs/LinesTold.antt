-- The script lines of a tick, given one after another.
use Rattle.std.proofs.Common.{◌≡◌, ◌≢◌, ℕ, if◌then◌else◌, List, [], ◌∷◌, ◌++◌, Bool, true, false, ◌==◌, ◌&&◌, filter, fold, Contains, inl, refl, sym, ◌∙◌, ap}
use Rattle.std.proofs.Common.{eqb-true, append-nil}
use Rattle.std.proofs.lemmas.Bool.{and_parts, and_from, eq-eqb, ne_eqb}
use Rattle.std.proofs.lemmas.List.Elements.{filter-append}
use Rattle.std.proofs.lemmas.List.Sums.{fold-append}
use Rattle.event_calendar.specs.declared.class.Class.TheVariants.{SendingEnd}
use Rattle.scenario_text.specs.ScenarioParts.{ScenarioParts}
use Rattle.scenario_text.specs.declared.script.ScriptLine.{ScriptLine}
use Rattle.air_log.specs.Devices.{Device, at_rest}
use Rattle.air_log.specs.ScriptedDevices.{device_after_line}
use Rattle.scenario_text.specs.Setups.{setup_of}
use Rattle.air_log.specs.Trails.{Reception, frame_start, lines_at, device_after_script, ending_at, device_after_receptions, before_tick}
use Rattle.air_log.proofs.NextDue.{none_passes}
use Rattle.world_engine.specs.Moments.{Before, InLines, At, IsAtMoment, trail_after_lines}

-- the line is of v and of the frame that starts at t
abbrev pub is_told : ScenarioParts → ℕ → ℕ → ScriptLine → Bool
is_told s v t l = (l.node == v) && (frame_start s l.frame == t)

module _ (s : ScenarioParts) (v : ℕ) (clock : ℕ → ℕ) (hs : List Reception) where
  -- at the beginning
  pub first_moment : IsAtMoment s clock hs v 0 Before at_rest
  unfolding before_tick
  first_moment = refl

  module _ (t : ℕ) where
    none_told : (ls : List ScriptLine) → ((l : ScriptLine) → Contains ls l → l.node ≡ v → frame_start s l.frame ≡ t → ⊥) → filter (is_told s v t) ls ≡ []
    none_told ls none =
        none_passes (is_told s v t) ls (λ l there is.
        let both = and_parts _ _ is in
        none l there (eqb-true l.node v both.0) (eqb-true (frame_start s l.frame) t both.1))

    -- no line of this tick has been given yet
    pub lines_begin : (told : List ScriptLine) (d : Device) → ((l : ScriptLine) → Contains told l → l.node ≡ v → frame_start s l.frame ≡ t → ⊥)
        → IsAtMoment s clock hs v t Before d → IsAtMoment s clock hs v t (InLines told) d
    lines_begin told d none at =
        at ∙ sym (ap (λ (ls : List ScriptLine). fold (device_after_line clock (setup_of s v) t) (before_tick s v clock hs t) ls) (none_told told none))

    one_passes : (l : ScriptLine) (b : Bool) → is_told s v t l ≡ b → filter (is_told s v t) (l ∷ []) ≡ (if b then l ∷ [] else [])
    one_passes l b is = rw is refl

    told_more : (told : List ScriptLine) (l : ScriptLine) (ls : List ScriptLine) → filter (is_told s v t) (l ∷ []) ≡ ls
        → trail_after_lines s v clock hs t (told ++ l ∷ []) ≡ fold (device_after_line clock (setup_of s v) t) (trail_after_lines s v clock hs t told) ls
    told_more told l ls is =
        let f = device_after_line clock (setup_of s v) t in
        let d = before_tick s v clock hs t in
        let mine = filter (is_told s v t) told in
        ap (λ (xs : List ScriptLine). fold f d xs) (filter-append (is_told s v t) told (l ∷ []) ∙ ap (λ (xs : List ScriptLine). mine ++ xs) is)
        ∙ fold-append f d mine ls

    -- a line of v
    pub line_told : (told : List ScriptLine) (l : ScriptLine) (d : Device) → l.node ≡ v → frame_start s l.frame ≡ t → IsAtMoment s clock hs v t (InLines told) d
        → IsAtMoment s clock hs v t (InLines (told ++ l ∷ [])) (device_after_line clock (setup_of s v) t d l)
    line_told told l d own now at =
        ap (λ (e : Device). device_after_line clock (setup_of s v) t e l) at
        ∙ sym (told_more told l (l ∷ []) (one_passes l true (and_from _ _ (eq-eqb l.node v own) (eq-eqb (frame_start s l.frame) t now))))

    other_node : (l : ScriptLine) → l.node ≢ v → is_told s v t l ≡ false
    other_node l other = rw (ne_eqb l.node v other) refl

    -- a line of another node
    pub line_of_other : (told : List ScriptLine) (l : ScriptLine) (d : Device) → l.node ≢ v → IsAtMoment s clock hs v t (InLines told) d
        → IsAtMoment s clock hs v t (InLines (told ++ l ∷ [])) d
    line_of_other told l d other at = at ∙ sym (told_more told l [] (one_passes l false (other_node l other)))

    none_heard : ((h : Reception) → Contains hs h → h.end ≡ t → ⊥) → ending_at t hs ≡ []
    none_heard none = none_passes (λ h. h.end == t) hs (λ h there is. none h there (eqb-true h.end t is))

    all_told : (told rest : List ScriptLine) → s.script ≡ told ++ rest
        → ((l : ScriptLine) → Contains rest l → l.node ≡ v → frame_start s l.frame ≡ t → ⊥) → lines_at s v t ≡ filter (is_told s v t) told
    all_told told rest is none =
        ap (filter (is_told s v t)) is
        ∙ filter-append (is_told s v t) told rest
        ∙ ap (λ (xs : List ScriptLine). filter (is_told s v t) told ++ xs) (none_told rest none)
        ∙ append-nil (filter (is_told s v t) told)

    nothing_heard : (d : Device) → ((h : Reception) → Contains hs h → h.end ≡ t → ⊥) → device_after_receptions clock (setup_of s v) t hs d ≡ d
    nothing_heard d none = rw (none_heard none) refl

    -- all lines of this tick have been given, and nothing was received at it yet
    pub lines_end : (told rest : List ScriptLine) (d : Device) → s.script ≡ told ++ rest
        → ((l : ScriptLine) → Contains rest l → l.node ≡ v → frame_start s l.frame ≡ t → ⊥)
        → ((h : Reception) → Contains hs h → h.end ≡ t → ⊥) → IsAtMoment s clock hs v t (InLines told) d → IsAtMoment s clock hs v t (At SendingEnd) d
    lines_end told rest d is none silent at =
        let f = device_after_line clock (setup_of s v) t in
        let whole : device_after_script s v clock t (before_tick s v clock hs t) ≡ trail_after_lines s v clock hs t told =
        ap (λ (xs : List ScriptLine). fold f (before_tick s v clock hs t) xs) (all_told told rest is none) in
        inl (at ∙ sym whole ∙ sym (nothing_heard (device_after_script s v clock t (before_tick s v clock hs t)) silent))
