-- A tray's table after a step of one token: what other tokens know stays so.
use Rattle.std.proofs.Common.{◌≡◌, ◌≢◌, ℕ, ◌<◌, List, [], ◌∷◌, set, Option, refl, sym, ◌∙◌}
use Rattle.std.proofs.Common.{subst, ⊎_elim, length-set, ◌++◌}
use Rattle.std.specs.Prelude.{slice_index}
use Rattle.std.proofs.lemmas.List.{get_or-set_same, set-get_or}
use mathlib.Core.Option as place
use mathlib.Core.Option.{some, none}
use lib.ListN.{get_elem?}
use Rattle.atomic_table.specs.Table.{State, stepped, keeps}
use Rattle.atomic_table.proofs.Lists.{at_set, at_snoc, set_again}
use Rattle.call_queue.specs.declared.board.Doing.{Doing}
use Rattle.call_queue.specs.declared.board.Doing.TheVariants.{Nothing, Claims, Waits, Serves, Tells}
use Rattle.call_queue.specs.declared.board.View.{View}
use Rattle.call_queue.specs.declared.slip.Slip.{Slip}
use Rattle.call_queue.specs.Spot.{Spot, vacant, claimed, waiting, taken, answered, IsWord, Knows, IsHome, Stands}
use Rattle.call_queue.specs.Spot.{idle_view}

-- what every other token than this one knows of one state is so of the next
abbrev pub OthersKnow : {L : Type 0} → ℕ → Spot L → Spot L → Type 0
OthersKnow {L} id spot after = (j : ℕ) (d : Doing L) → j ≢ id → Knows j d spot → Knows j d after

module _ {L : Type 0} where
  -- a token claims a vacant tray
  pub claim_known : (id : ℕ) → OthersKnow {L = L} id vacant (claimed id)
  claim_known id j Nothing n k = tt
  claim_known id j Claims n k = absurd k
  claim_known id j (Waits l) n k = absurd k
  claim_known id j (Serves l) n k = absurd k
  claim_known id j Tells n k = tt

  -- what the token that has the tray to itself knows is not known by others
  pub claimed_known : (id k : ℕ) (after : Spot L) → k ≡ id → OthersKnow id (claimed k) after
  claimed_known id k after same j Nothing n c = tt
  claimed_known id k after same j Claims n c = absurd (n (sym c ∙ same))
  claimed_known id k after same j (Waits l) n c = absurd c
  claimed_known id k after same j (Serves l) n c = absurd c
  claimed_known id k after same j Tells n c = tt

  -- the token that left something takes it back
  pub withdraw_known : (id k : ℕ) (l : L) → k ≡ id → OthersKnow id (waiting k l) (claimed id)
  withdraw_known id k l same j Nothing n c = tt
  withdraw_known id k l same j Claims n c = absurd c
  withdraw_known id k l same j (Waits x) n c = absurd (n (sym c.0 ∙ same))
  withdraw_known id k l same j (Serves x) n c = absurd c
  withdraw_known id k l same j Tells n c = tt

  -- the token that left something takes the answer
  pub take_back_known : (id k : ℕ) (l : L) → k ≡ id → OthersKnow id (answered k l) (claimed id)
  take_back_known id k l same j Nothing n c = tt
  take_back_known id k l same j Claims n c = absurd c
  take_back_known id k l same j (Waits x) n c = absurd (n (sym c.0 ∙ same))
  take_back_known id k l same j (Serves x) n c = absurd c
  take_back_known id k l same j Tells n c = tt

  -- a token takes up what was left
  pub take_up_known : (id k : ℕ) (l : L) → OthersKnow id (waiting k l) (taken k l id)
  take_up_known id k l j Nothing n c = tt
  take_up_known id k l j Claims n c = absurd c
  take_up_known id k l j (Waits x) n c = c
  take_up_known id k l j (Serves x) n c = absurd c
  take_up_known id k l j Tells n c = tt

  -- and answers it
  pub answer_known : (id k m : ℕ) (l : L) → m ≡ id → OthersKnow id (taken k l m) (answered k l)
  answer_known id k m l same j Nothing n c = tt
  answer_known id k m l same j Claims n c = absurd c
  answer_known id k m l same j (Waits x) n c = c
  answer_known id k m l same j (Serves x) n c = absurd (n (sym c.0 ∙ same))
  answer_known id k m l same j Tells n c = tt

  -- or puts it back
  pub put_back_known : (id k m : ℕ) (l : L) → m ≡ id → OthersKnow id (taken k l m) (waiting k l)
  put_back_known id k m l same j Nothing n c = tt
  put_back_known id k m l same j Claims n c = absurd c
  put_back_known id k m l same j (Waits x) n c = c
  put_back_known id k m l same j (Serves x) n c = absurd (n (sym c.0 ∙ same))
  put_back_known id k m l same j Tells n c = tt

module _ {A L B : Type 0} (fits : A → L → Type 0) (answers : L → B → Type 0) (about : A) where
  -- a tray after a step of one token
  pub moved : (spot after : Spot L) (s : State (Option (Slip L B)) (View A L)) → Stands fits answers about spot s
      → (id n : ℕ) (homes : List (place.Option (Option (Slip L B)))) (w : View A L) → IsWord after n
      → IsHome fits answers about after homes → (w.about ≡ about) × Knows id w.doing after → OthersKnow id spot after
      → Stands fits answers about after record { words = set s.words 0 n; homes = homes; views = set s.views id w }
  moved spot after s r id n homes w word home mine others = record {
    words = subst (λ (k : ℕ). 0 < k) (sym (length-set s.words 0 n)) r.words;
    word = subst (IsWord after) (sym (get_or-set_same s.words 0 n 0 r.words)) word;
    home = home;
    views = λ j u e. ⊎_elim
        (λ (t : (j ≡ id) × (w ≡ u)).
        subst (λ (y : ℕ × View A L). (y.1.about ≡ about) × Knows y.0 y.1.doing after)
        (λ i. (sym t.0 i, t.1 i)) mine)
        (λ (t : (j ≢ id) × (get_elem? s.views j ≡ some u)).
        let known = r.views j u t.1 in (known.0, others j u.doing t.0 known.1))
        (at_set s.views id j w u e);
  }

  -- a tray with a new token that does nothing
  pub arrived : (spot : Spot L) (s : State (Option (Slip L B)) (View A L)) → Stands fits answers about spot s
      → Stands fits answers about spot record {
        words = s.words;
        homes = s.homes;
        views = s.views ++ idle_view about ∷ [];
      }
  arrived spot s r = record {
    words = r.words;
    word = r.word;
    home = r.home;
    views = λ j u e. ⊎_elim
        (λ (t : get_elem? s.views j ≡ some u). r.views j u t)
        (λ (t : idle_view about ≡ u).
        subst (λ (y : View A L). (y.about ≡ about) × Knows j y.doing spot) t (refl, tt))
        (at_snoc s.views (idle_view about) u j e);
  }
