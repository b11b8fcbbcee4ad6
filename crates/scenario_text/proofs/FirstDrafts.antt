-- What is true of a draft of no lines, and after the lines that choose the profile.
use Rattle.std.proofs.Common.{◌≡◌, Bool, true, false, if◌then◌else◌, refl, arith, inl, inr}
use Rattle.std.proofs.lemmas.Bool.{false≢true}
use Rattle.lwb_base.specs.Profile.{Numbers, IsProfile, one, contended}
use Rattle.scenario_text.proofs.DraftFacts.{nothing, after_top, IsFine}

-- the first lines
pub fine_top : (p : Numbers) (b : Bool) → IsProfile p → (b ≡ true → after_top p b ≡ after_top (contended 0) true) → IsFine (after_top p b)
fine_top p b is two = record {
  network = record { sends = tt; few_nodes = omega arith; rises = tt; offsets = tt; follows = tt; rates = tt };
  first = λ is. absurd (false≢true is);
  second = two;
  profile = is;
  frames = tt;
  ids = tt;
  ticks = tt;
  hosts = record { known = tt; few = omega arith; distinct = tt };
  script = record { fits = tt; climbs = tt; boots = tt };
  trace = record { links = tt; links_climb = tt; losses = tt; losses_climb = tt; cuts = tt; cuts_climb = tt; captures = tt; captures_climb = tt };
  unframed = λ none. record { script = refl; losses = refl; cuts = refl; captures = refl };
  power = refl;
  counted = refl;
  few = omega arith;
  limit = refl;
}

pub fine_first : IsFine nothing
fine_first = record {
  network = record { sends = tt; few_nodes = omega arith; rises = tt; offsets = tt; follows = tt; rates = tt };
  first = λ is. refl;
  second = λ is. absurd (false≢true is);
  profile = inl refl;
  frames = tt;
  ids = tt;
  ticks = tt;
  hosts = record { known = tt; few = omega arith; distinct = tt };
  script = record { fits = tt; climbs = tt; boots = tt };
  trace = record { links = tt; links_climb = tt; losses = tt; losses_climb = tt; cuts = tt; cuts_climb = tt; captures = tt; captures_climb = tt };
  unframed = λ none. record { script = refl; losses = refl; cuts = refl; captures = refl };
  power = refl;
  counted = refl;
  few = omega arith;
  limit = refl;
}

pub profile_fine : (b : Bool) → IsFine (after_top (if b then contended 0 else one) b)
profile_fine true = fine_top (contended 0) true (inr (refl, omega arith)) (λ is. refl)
profile_fine false = fine_top one false (inl refl) (λ is. absurd (false≢true is))
