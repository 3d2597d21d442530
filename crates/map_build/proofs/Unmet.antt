-- The first place among those that wait that is not met and whose opportunity fits.
use Rattle.std.proofs.Common.{◌≡◌, ℕ, ◌+◌, ◌<◌, ◌≤◌, Bool, true, false, List, length, get_or, set, Some, inl}
use Rattle.std.proofs.Common.{inr, ap, subst, ◌∙◌, arith}
use Rattle.std.proofs.lemmas.Bool.{cases_lt}
use Rattle.std.proofs.lemmas.Option.{slice_get-get_or, get_or_from_slice_get, slice_get_within}
use Rattle.map_build.specs.declared.draft.Draft.{Draft}
use Rattle.sched_calls.specs.declared.opportunity.Opportunity.{Opportunity}
use Rattle.map_build.specs.Opportunities.{IsUnmet, IsFirstUnmet, NoneUnmet}
use Rattle.map_build.specs.Walk.{HasSame, offer_here, Meets}
use Rattle.map_build.proofs.Takings.{Knows-offer}

module _ (waiting : List Opportunity) (met : List Bool) (room place : ℕ) where
  -- none of the places before this one is unmet and fits
  abbrev pub NoneBefore : Type 0
  NoneBefore = (other : ℕ) → other < place → IsUnmet waiting met room other → ⊥

  -- this place is the first that is not met and fits
  pub first-unmet : (o : Opportunity) → place < length waiting → length waiting ≤ length met →
      get_or met place false ≡ false → (get_or waiting place o).slots ≤ room → NoneBefore →
      IsFirstUnmet waiting met room place
  first-unmet o lt few fresh fits before = record {
    is = record {
      opportunity = get_or waiting place o;
      waits = slice_get-get_or waiting place o lt;
      unmet = slice_get-get_or met place false (omega arith) ∙ ap Some fresh;
      fits = fits;
    };
    first = λ other is. elim (cases_lt other place) [
      | inl early ↦ absurd (before other early is)
      | inr le ↦ le
    ];
  }

  -- a place with a mark is met
  pub marked-met : get_or met place false ≡ true → IsUnmet waiting met room place → ⊥
  marked-met marked is =
      let fresh : get_or met place false ≡ false = get_or_from_slice_get met place false false is.unmet in absurd (cc)

  -- an opportunity that is longer than the room does not fit
  pub long-unfit : (o : Opportunity) → room < (get_or waiting place o).slots → IsUnmet waiting met room place → ⊥
  long-unfit o long is =
      let same : get_or waiting place o ≡ is.opportunity =
      get_or_from_slice_get waiting place is.opportunity o is.waits in
      omega (arith, is.fits, ap (λ (p : Opportunity). p.slots) same)

  -- where this place is not it either, none of those up to it is
  pub none-more : NoneBefore → (IsUnmet waiting met room place → ⊥) → (other : ℕ) → other < place + 1 →
      IsUnmet waiting met room other → ⊥
  none-more before here other lt is = elim (cases_lt other place) [
    | inl early ↦ before other early is
    | inr late ↦ (
        let same : other ≡ place = omega arith in here (subst (IsUnmet waiting met room) same is))
  ]

  -- at the end there is none
  pub none-unmet : NoneBefore → length waiting ≤ place → NoneUnmet waiting met room
  none-unmet before end other is =
      before other (omega (arith, slice_get_within waiting other is.opportunity is.waits)) is

-- a draft with the mark of the first such place knows of its opportunity
pub Meets-marked : (waiting : List Opportunity) (room place : ℕ) (o : Opportunity) (old new : Draft) →
    (first : IsFirstUnmet waiting old.met room place) → new.met ≡ set old.met place true → new.overlay ≡ old.overlay →
    new.grants ≡ old.grants → new.start ≡ old.start → HasSame old new →
    Meets waiting room (offer_here old place (get_or waiting place o)) old new
Meets-marked waiting room place o old new first marks book grants start same = record {
  knows = Knows-offer place (get_or waiting place o) old new
      (slice_get_within old.met place false first.is.unmet) marks book grants start;
  same = same;
  place = place;
  first = first;
  is = ap (offer_here old place) (get_or_from_slice_get waiting place first.is.opportunity o first.is.waits);
}
