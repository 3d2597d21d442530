-- The words of a lock just opened, as they are written one after the other.
use Rattle.std.proofs.Common.{◌≡◌, ◌≢◌, ℕ, ◌+◌, ◌%◌, ◌^◌, ◌<◌, ◌≤◌, List, length, set, sym, ap, ◌∙◌, subst}
use Rattle.std.proofs.Common.{⊎_elim, arith, length-set, replicate}
use Rattle.std.specs.Prelude.{slice_index}
use Rattle.std.proofs.lemmas.Bool.{cases_eq}
use Rattle.std.proofs.lemmas.List.{get_or-set_same, get_or-set_other, length-replicate, get_or-replicate}
use Rattle.ticket_core.specs.LockWorld.{opened_world}
use Rattle.ticket_core.specs.Grants.{grant_of}
use Rattle.ticket_lock.specs.Row.{place_of, WordsStand}
use Rattle.ticket_lock.proofs.Row.{place_of-within, place_of-first, place_of-line, place_of-apart}

-- the first word has the first ticket, and the row up to this index what is granted
pub record LaidTo (first upto : ℕ) (words : List ℕ) : Type 0 where
  pub count : length words ≡ 520
  pub next : slice_index words 0 ≡ first
  pub grants : (i : ℕ) → i < upto → slice_index words (place_of i) ≡ grant_of first i
  pub between : (k : ℕ) → k < 520 → k % 8 ≢ 0 → slice_index words k ≡ 0

-- before any word of the row is written
pub LaidTo-none : (first : ℕ) → LaidTo first 0 (set (replicate 520 0) 0 first)
LaidTo-none first =
    let none : ℕ = 0 in
    let blank : List ℕ = replicate 520 none in
    let count : length blank ≡ 520 = length-replicate 520 none in record {
      count = length-set blank 0 first ∙ count;
      next = get_or-set_same blank 0 first 0 (omega arith);
      grants = λ i below. absurd (omega arith);
      between = λ k below off. get_or-set_other blank 0 k first 0 (λ e. off (ap (λ (n : ℕ). n % 8) e))
          ∙ get_or-replicate 520 k none none below;
    }

-- with one word more
pub LaidTo-more : (first n : ℕ) (words : List ℕ) (here new : ℕ) → LaidTo first n words → n < 64 → here ≡ place_of n
    → new ≡ grant_of first n → LaidTo first (n + 1) (set words here new)
LaidTo-more first n words here new laid below at is = record {
  count = length-set words here new ∙ laid.count;
  next = get_or-set_other words here 0 new 0 (λ e. place_of-first n (sym at ∙ sym e)) ∙ laid.next;
  grants = λ i under. ⊎_elim
      (λ (e : i ≡ n). ap (λ (k : ℕ). slice_index (set words here new) k) (ap place_of e ∙ sym at)
      ∙ get_or-set_same words here new 0
      (subst (λ (k : ℕ). here < k) (sym laid.count) (subst (λ (k : ℕ). k < 520) (sym at) (place_of-within n)))
      ∙ is ∙ ap (grant_of first) (sym e))
      (λ (other : i ≢ n).
      get_or-set_other words here (place_of i) new 0
      (λ e. other (place_of-apart i n (omega arith) below (e ∙ at)))
      ∙ laid.grants i (omega arith))
      (cases_eq i n);
  between = λ k in_table off. get_or-set_other words here k new 0
      (λ e. off (ap (λ (m : ℕ). m % 8) (e ∙ at) ∙ place_of-line n))
      ∙ laid.between k in_table off;
}

-- all of them stand for the opened world
pub LaidTo-all : (first upto : ℕ) (words : List ℕ) → first < 2 ^ 64 → 64 ≤ upto → LaidTo first upto words
    → (seats : ℕ) → WordsStand (opened_world seats first) words
LaidTo-all first upto words fits all laid seats = record {
  count = laid.count;
  next = laid.next ∙ omega arith;
  grants = λ i below. laid.grants i (omega arith);
  between = laid.between;
}
