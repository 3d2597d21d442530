-- How the portions that seats handed over go on with more events, and that they are the front of the history.
use Rattle.std.proofs.Common.{◌≡◌, ◌≢◌, ℕ, ◌+◌, List, [], ◌∷◌, ◌++◌, map, cond, ◌==◌, length, filter, refl, sym, ap}
use Rattle.std.proofs.Common.{◌∙◌, subst}
use Rattle.std.proofs.Common.{length-append, eq-eqb, ne_eqb}
use Rattle.std.proofs.lemmas.List.{append-nil, append_assoc}
use Rattle.std.proofs.lemmas.List.Elements.{filter-append}
use Rattle.sched_calls.specs.declared.reply.Entry.{Entry}
use Rattle.ticket_lock.specs.declared.board.Logged.{Logged}
use Rattle.ticket_lock.specs.Rule.{Every, entry_of, IsOfOthers}
use Rattle.sched_desk.specs.declared.event.Event.{Event}
use Rattle.sched_desk.specs.declared.event.Event.TheVariants.{Recorded, Marked}
use Rattle.sched_desk.specs.Events.{Parted, nothing_yet, with_entry, all_handed, parted_after, author_of}
use Rattle.sched_desk.specs.Portions.{Portion, portion_of, portions_after, portions_in, portions_of, entries_in}
use Rattle.sched_desk.specs.Portions.{FollowOn}

-- the portions of events in two parts are those of both
pub portions_after-append : (p : Parted) (xs ys : List Event)
    → portions_after p (xs ++ ys) ≡ portions_after p xs ++ portions_after (parted_after p xs) ys
portions_after-append p [] ys = refl
portions_after-append p (Recorded e ∷ xs) ys = portions_after-append (with_entry p e) xs ys
portions_after-append p (Marked stamp ∷ xs) ys =
    ap (λ (l : List Portion). portion_of stamp.seat p ∷ l) (portions_after-append (all_handed p) xs ys)

-- their entries are what was handed over since
pub entries_in-handed : (p : Parted) (xs : List Event)
    → (parted_after p xs).handed ≡ p.handed ++ entries_in (portions_after p xs)
entries_in-handed p [] = sym (append-nil p.handed)
entries_in-handed p (Recorded e ∷ xs) = entries_in-handed (with_entry p e) xs
entries_in-handed p (Marked stamp ∷ xs) =
    entries_in-handed (all_handed p) xs
    ∙ append_assoc p.handed p.kept (entries_in (portions_after (all_handed p) xs))

-- each begins where the one before it ends
pub FollowOn-portions : (p : Parted) (xs : List Event) → FollowOn (length p.handed) (portions_after p xs)
FollowOn-portions p [] = tt
FollowOn-portions p (Recorded e ∷ xs) = FollowOn-portions (with_entry p e) xs
FollowOn-portions p (Marked stamp ∷ xs) = (
  refl,
  subst (λ (n : ℕ). FollowOn n (portions_after (all_handed p) xs)) (length-append p.handed p.kept)
      (FollowOn-portions (all_handed p) xs),
)

-- others hand over no portion of a seat
pub portions_of-others : (number : ℕ) (p : Parted) (log : List (Logged Event)) → IsOfOthers author_of number log
    → portions_of number (portions_after p (map entry_of log)) ≡ []
portions_of-others number p [] others = refl
portions_of-others number p (x ∷ xs) others = by x.entry others.0 (λ q. portions_of-others number q xs others.1)
  where
    by : (y : Event) → (author_of y).seat ≢ number
        → ((q : Parted) → portions_of number (portions_after q (map entry_of xs)) ≡ [])
        → portions_of number (portions_after p (y ∷ map entry_of xs)) ≡ []
    by (Recorded e) apart rest = rest (with_entry p e)
    by (Marked stamp) apart rest =
        ap (λ b. cond b (portion_of stamp.seat p ∷ portions_of number (portions_after (all_handed p) (map entry_of xs)))
        (portions_of number (portions_after (all_handed p) (map entry_of xs)))) (ne_eqb stamp.seat number apart)
        ∙ rest (all_handed p)
