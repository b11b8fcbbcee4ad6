-- Two floods whose links differ go the same where the losses that they do not share change nothing that is received.
use Rattle.std.proofs.Common.{◌≡◌, ℕ, zero, suc, ◌+◌, Bool, true, false, not, ◌&&◌, if◌then◌else◌, nat_lt, Option, Some, None, is_none, is_some}
use Rattle.std.proofs.Common.{filter_map, option_and_then, refl, sym, ◌∙◌, ap}
use Rattle.std.proofs.Math.Path.{fun_ext}
use Rattle.std.proofs.lemmas.Bool.{eqb-true, true≢false}
use Rattle.std.specs.Prelude.{nat_eq}
use Rattle.std.specs.Option.{option_eq}
use Rattle.bus_terms.specs.Flooding.{Moment, STEPS, Setting, first_heard, has, hears, may_hear, moment, next, offer, only_one, takes}

-- the flood over other links
abbrev pub with_links : (ℕ → ℕ → ℕ → Bool) → Setting → Setting
with_links passes x = record x { passes = passes }

-- what is received by what is offered
abbrev heard_of : Setting → Moment → ℕ → ℕ → (ℕ → Option ℕ) → Option ℕ
heard_of x m k v offers =
    if may_hear x m v
    then option_and_then (λ o. if takes x m v o then Some o else None) (only_one (filter_map offers x.everyone) (option_and_then offers (x.captured k v)))
    else None

pub hears_alike : (x : Setting) (p q : ℕ → ℕ → ℕ → Bool) (m : Moment) (k v : ℕ) → ((u : ℕ) → offer (with_links p x) m k v u ≡ offer (with_links q x) m k v u)
    → hears (with_links p x) m k v ≡ hears (with_links q x) m k v
hears_alike x p q m k v same = ap (heard_of x m k v) (fun_ext same)

-- who takes no part receives nothing
pub hears_nothing : (x : Setting) (m : Moment) (k v : ℕ) → has x.everyone v ≡ false → hears x m k v ≡ None
hears_nothing x m k v outside =
    ap (λ (b : Bool). if b && is_none (m.sends v) && nat_lt (m.times v) x.limit
    then option_and_then (λ o. if takes x m v o then Some o else None)
    (only_one (filter_map (offer x m k v) x.everyone) (option_and_then (offer x m k v) (x.captured k v)))
    else None) outside

-- what is received in a step gives the next
abbrev after_hearing : ℕ → Moment → (ℕ → Option ℕ) → Moment
after_hearing k m heard = record {
  sends = λ v. if nat_lt (k + 1) STEPS then heard v else None;
  times = λ v. m.times v + (if is_some (m.sends v) then 1 else 0);
  heard = λ v. first_heard (m.heard v) k (heard v);
}

-- so floods go the same where in each step the same is received after the same steps
pub moments_alike : (x : Setting) (q : ℕ → ℕ → ℕ → Bool)
    → ((k v : ℕ) → hears (with_links q x) (moment x k) k v ≡ hears x (moment x k) k v) → (k : ℕ) → moment (with_links q x) k ≡ moment x k
unfolding moment
moments_alike x q same zero = refl
moments_alike x q same (suc k) =
    ap (next (with_links q x) k) (moments_alike x q same k) ∙ ap (after_hearing k (moment x k)) (fun_ext (same k))

-- all losses of the step at a node are kept, or none
abbrev pub some_kept : Bool → Bool → Bool → Bool → Bool
some_kept passes lost sends changed = passes && not (lost && (passes && (sends && changed)))

all_kept : (passes lost : Bool) (what : Option ℕ)
    → (if some_kept passes lost (is_some what) true then what else None) ≡ (if passes && not lost then what else None)
all_kept false lost what = refl
all_kept true false what = refl
all_kept true true None = refl
all_kept true true (Some o) = refl

none_kept : (passes lost sends : Bool) → some_kept passes lost sends false ≡ passes
none_kept false lost sends = refl
none_kept true false sends = refl
none_kept true true false = refl
none_kept true true true = refl

same_options : (a b : Option ℕ) → not (option_eq nat_eq a b) ≡ false → a ≡ b
same_options None None is = refl
same_options None (Some o) is = absurd (true≢false is)
same_options (Some o) None is = absurd (true≢false is)
same_options (Some o) (Some n) is = ap (λ (i : ℕ). Some i) (eqb-true o n (not_not (nat_eq o n) is))
  where
    not_not : (b : Bool) → not b ≡ false → b ≡ true
    not_not true is = refl
    not_not false is = absurd (true≢false is)

-- p: the links with no losses; lost: the losses; all of them at v, of those who transmit, are kept where v receives otherwise by them
module _ (x : Setting) (p lost q r : ℕ → ℕ → ℕ → Bool) (m : Moment) (k v : ℕ) where
  abbrev all_lost : Setting
  all_lost = with_links q x

  abbrev none_lost : Setting
  none_lost = with_links p x

  abbrev changed : Bool
  changed = not (option_eq nat_eq (hears all_lost m k v) (hears none_lost m k v))

  pub hears_by_kept : ((u : ℕ) → q k u v ≡ (p k u v && not (lost k u v)))
      → ((u : ℕ) → r k u v ≡ some_kept (p k u v) (lost k u v) (is_some (m.sends u)) changed)
      → hears (with_links r x) m k v ≡ hears all_lost m k v
  hears_by_kept over kept = by_change changed refl
    where
      by_change : (b : Bool) → changed ≡ b → hears (with_links r x) m k v ≡ hears all_lost m k v
      by_change false is =
          hears_alike x r p m k v
          (λ u. ap (λ (b : Bool). if b then m.sends u else None)
          (kept u ∙ ap (some_kept (p k u v) (lost k u v) (is_some (m.sends u))) is ∙ none_kept (p k u v) (lost k u v) (is_some (m.sends u))))
          ∙ sym (same_options (hears all_lost m k v) (hears none_lost m k v) is)
      by_change true is =
          hears_alike x r q m k v
          (λ u. ap (λ (b : Bool). if b then m.sends u else None) (kept u ∙ ap (some_kept (p k u v) (lost k u v) (is_some (m.sends u))) is)
          ∙ all_kept (p k u v) (lost k u v) (m.sends u)
          ∙ ap (λ (b : Bool). if b then m.sends u else None) (sym (over u)))
