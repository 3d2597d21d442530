-- What is told of lives where it begins anew behind a whole history.
use Rattle.std.proofs.Common.{◌≡◌, ℕ, ◌-◌, ◌<◌, ◌≤◌, true, false, List, ◌++◌, length, take, get_or}
use Rattle.std.proofs.Common.{sym, ap, ◌∙◌, subst, inl, inr, arith}
use Rattle.std.proofs.lemmas.Bool.{cases_Bool}
use Rattle.std.proofs.lemmas.List.{drop_all, get_or-map, length-append, length-map}
use Rattle.std.proofs.lemmas.List.Elements.{All-contains, All-from_recursion, Contains-get_or}
use Rattle.minislots.specs.declared.config.Config.{Config}
use Rattle.sched_calls.specs.declared.reply.Entry.{Entry}
use Rattle.sched_history.specs.History.{IsLegal}
use Rattle.sched_history.specs.Time.{next_after}
use Rattle.sched_report.specs.declared.life.LifeTally.{LifeTally}
use Rattle.sched_report.specs.Lives.{PastLife, lives_of, passing, lives_in}
use Rattle.sched_report.specs.Told.{IsLifeOf}
use Rattle.sched_report.specs.declared.waits.Waited.{Waited}
use Rattle.sched_report.specs.Waits.{AreWaits, AreWaited}
use Rattle.flow_book.specs.declared.standing.Standing.{Standing}
use Rattle.flow_book.specs.declared.standing.Standing.TheVariants.{UnderReservation, AtCeiling}
use Rattle.sched_report.specs.WaitsIn.{waits_since, waits_in}
use Rattle.sched_report.proofs.LegalLives.{IsLifeIn, are_lives}

module _ (c : Config) (h : List Entry) (legal : IsLegal c h) (i : ℕ) (d : PastLife) (below : i < length (lives_of h)) where
  -- the life at a place is one of the history
  abbrev there : PastLife
  there = get_or (lives_of h) i d

  is-there : IsLifeIn h there
  is-there =
      All-contains (IsLifeIn h) (lives_of h) there
      (All-from_recursion (IsLifeIn h) (lives_of h) (are_lives c h legal)) (Contains-get_or (lives_of h) i d below)

  abbrev passed : ℕ
  passed = length h - length there.upto

  gone : there.ended ≡ true → length there.since < passed
  gone ended = omega (arith, is-there.behind ended)

  going : there.ended ≡ false → passed ≡ length there.since
  going alive = omega (
    arith,
    length-append there.upto there.since,
    ap (λ (es : List Entry). length es) (is-there.whole alive),
  )

  here : (p : ℕ) → get_or (lives_in p h) i d ≡ passing p there
  here p = get_or-map (passing p) (lives_of h) i d d below

  -- it begins anew with what is told of it
  pub renewed : (p slot : ℕ) (old new : LifeTally) → slot ≡ next_after c h → IsLifeOf c old (get_or (lives_in p h) i d)
      → ((c : Config) (life : PastLife) (passed : ℕ) → IsLifeOf c old life
      → (life.ended ≡ false → slot ≡ next_after c (life.upto ++ life.since))
      → (life.ended ≡ false → passed ≡ length life.since) → (life.ended ≡ true → length life.since < passed)
      → IsLifeOf c new (record life { passed = passed })) → IsLifeOf c new (get_or (lives_in (length h) h) i d)
  renewed p slot old new next is step =
      subst (IsLifeOf c new) (sym (here (length h)))
      (step c (passing p there) passed (subst (IsLifeOf c old) (here p) is)
      (λ alive. next ∙ ap (next_after c) (sym (is-there.whole alive))) going gone)

  -- and waited never since
  pub none-waited : (s : Standing) → waits_in s c (get_or (lives_in (length h) h) i d) ≡ 0
  none-waited s =
      let within : length there.since ≤ passed =
      elim (cases_Bool there.ended) [
        | inl ended ↦ omega (arith, gone ended)
        | inr alive ↦ omega (arith, going alive)
      ] in
      ap (waits_in s c) (here (length h))
      ∙ ap (waits_since s c there.sid (there.upto ++ take passed there.since)) (drop_all passed there.since within)

-- counts that begin anew are those of no MAP
AreWaits-renewed : (s : Standing) (c : Config) (h : List Entry) → IsLegal c h → (counts : List ℕ)
    → length counts ≡ length (lives_of h) → ((k n : ℕ) → k < length counts → get_or counts k n ≡ 0)
    → AreWaits s c (length h) h counts
AreWaits-renewed s c h legal counts long none = record {
  long = long ∙ sym (length-map (lives_of h) (passing (length h)));
  each = λ k n life below. none k n below ∙ sym (none-waited c h legal k life (omega (arith, below, long)) s);
  few = λ k n below. omega (arith, none k n below);
}

-- so of both
pub AreWaited-renewed : (c : Config) (h : List Entry) → IsLegal c h → (p : ℕ) (old new : Waited) → AreWaited c p h old
    → length new.under.items ≡ length old.under.items → length new.held.items ≡ length old.held.items
    → ((k n : ℕ) → k < length new.under.items → get_or new.under.items k n ≡ 0)
    → ((k n : ℕ) → k < length new.held.items → get_or new.held.items k n ≡ 0) → AreWaited c (length h) h new
AreWaited-renewed c h legal p old new are under_len held_len under held = record {
  under = AreWaits-renewed UnderReservation c h legal new.under.items
      (omega (arith, under_len, are.under.long, length-map (lives_of h) (passing p))) under;
  held = AreWaits-renewed AtCeiling c h legal new.held.items
      (omega (arith, held_len, are.held.long, length-map (lives_of h) (passing p))) held;
}
