-- What the table of a tray asks of each step: a state that the table stands for afterwards, and what the token is told.
use Rattle.std.proofs.Common.{◌≡◌, ◌≢◌, ◌⊎◌, ℕ, List, [], ◌∷◌, set, Option, Some, None, refl, sym, ap}
use Rattle.std.proofs.Common.{subst, ⊎_elim, arith, inl, inr, ◌==◌, ◌∙◌}
use Rattle.std.specs.Prelude.{slice_index}
use mathlib.Core.Option.{some, none}
use lib.ListN.{get_elem?}
use prog.Atomic.{either}
use Rattle.atomic_table.specs.Table.{State, Act, Valid, stepped, keeps, takes, gives, carried_after}
use Rattle.atomic_table.specs.Table.{Allows, Enters, rest}
use Rattle.atomic_table.proofs.Lists.{exchanged}
use Rattle.call_queue.specs.declared.board.Doing.TheVariants.{Nothing, Claims, Waits, Serves, Tells}
use Rattle.call_queue.specs.declared.board.TheConstants.{VACANT, CLAIMED, WAITING, TAKEN, ANSWERED, CALLED}
use Rattle.call_queue.specs.declared.board.View.{View}
use Rattle.call_queue.specs.declared.slip.Slip.{Slip}
use Rattle.call_queue.specs.declared.slip.Slip.TheVariants.{Left, Back}
use Rattle.call_queue.specs.Spot.{Spot, vacant, claimed, waiting, taken, answered, HasClaimed, HasLeft, HasTaken, Knows}
use Rattle.call_queue.specs.Spot.{Stands, Ruled, idle_view}
use Rattle.call_queue.specs.Plays.{doing_view, missed_view, Token, TrayStep, Stays, Claimed, PutsDown, Parts, HasTold}
use Rattle.call_queue.specs.Plays.{CallsUp, Withdraws, TakesUp, TakesBack}
use Rattle.call_queue.proofs.Moved.{claim_known, claimed_known, withdraw_known, take_back_known, take_up_known}
use Rattle.call_queue.proofs.Moved.{answer_known, put_back_known, moved, arrived}

-- a token that has one slot has no other
pub alone_taken : {S : Type 0} (c : List (ℕ × S)) (x : ℕ × S) → c ≡ x ∷ [] → c ≡ x ∷ rest c
alone_taken c x is = is ∙ ap (λ d. x ∷ rest d) (sym is)

module _ {L B : Type 0} where
  -- what was left, in what lies in a slot, or else this
  abbrev left_of : Option (Slip L B) → L → L
  left_of None other = other
  left_of (Some (Left l)) other = l
  left_of (Some (Back b)) other = other

  -- what was left, in the first of some slots, or else this
  abbrev pub left_on : List (ℕ × Option (Slip L B)) → L → L
  left_on [] other = other
  left_on (x ∷ xs) other = left_of x.1 other

  -- what lies in one slot is one slip
  pub left_only : (x y : L)
      → ◌≡◌ {A = List (ℕ × Option (Slip L B))} ((0, Some (Left x)) ∷ []) ((0, Some (Left y)) ∷ []) → x ≡ y
  left_only x y is = ap (λ c. left_on c x) is

module _ {A L B : Type 0} (fits : A → L → Type 0) (answers : L → B → Type 0) (about : A) where
  -- a new view and an act that keep the rule where the word becomes this, and what is told then
  abbrev Steps : State (Option (Slip L B)) (View A L) → ℕ → Token A L B → ℕ → (Token A L B → Type 0) → Type 0
  Steps s id m n told = (w : View A L) × (a : Act (Option (Slip L B))) × Valid s.homes m.1 a
      × Ruled fits answers about (stepped s 0 n id m.1 w a) × told (w, carried_after m.1 a)

  -- a new token at a tray does nothing
  pub arrives : (slots : ℕ) (st : TrayStep L B)
      → Enters (Ruled fits answers about) slots 0 (λ n w. Stays st (idle_view about, []) n (w, []))
  arrives slots st s (spot, r) deep small = (idle_view about, (spot, arrived fits answers about spot s r), refl)

  -- a compare-exchange, by whether it finds what it expects
  exchanges : (s : State (Option (Slip L B)) (View A L)) (id : ℕ) (v : View A L)
      (c : List (ℕ × Option (Slip L B))) (old new : ℕ) (told : ℕ → Token A L B → Type 0)
      → (slice_index s.words 0 ≡ old → Steps s id (v, c) new (told (slice_index s.words 0)))
      → (slice_index s.words 0 ≢ old → Steps s id (v, c) (slice_index s.words 0) (told (slice_index s.words 0)))
      → Steps s id (v, c) (either (slice_index s.words 0 == old) new (slice_index s.words 0))
      (told (slice_index s.words 0))
  exchanges s id v c old new told hit miss = exchanged (slice_index s.words 0) old new
      (λ (n : ℕ). Steps s id (v, c) n (told (slice_index s.words 0))) hit miss

  module _ (s : State (Option (Slip L B)) (View A L)) (id : ℕ) (v : View A L) (at : get_elem? s.views id ≡ some v) where
    -- a token leaves the tray as it is, and has another view of it
    stays : (c : List (ℕ × Option (Slip L B))) (w : View A L) (spot : Spot L) → Stands fits answers about spot s
        → (w.about ≡ about) × Knows id w.doing spot → (told : Token A L B → Type 0) → told (w, c)
        → Steps s id (v, c) (slice_index s.words 0) told
    stays c w spot r knows told it = (
      w,
      keeps,
      tt,
      (
        spot,
        moved fits answers about spot spot s r id (slice_index s.words 0) s.homes w r.word r.home knows
            (λ j d n known. known),
      ),
      it,
    )

    -- a token finds the tray vacant
    claim_hit : (c : List (ℕ × Option (Slip L B))) (st : TrayStep L B) (spot : Spot L)
        → Stands fits answers about spot s → slice_index s.words 0 ≡ VACANT
        → Steps s id (v, c) CLAIMED (Claimed st (v, c) (slice_index s.words 0))
    claim_hit c st vacant r e = (
      doing_view v Claims,
      takes 0 None,
      ap (λ hs. get_elem? hs 0) r.home,
      (
        claimed id,
        moved fits answers about vacant (claimed id) s r id CLAIMED (set s.homes 0 none) (doing_view v Claims) refl
            (ap (λ hs. set hs 0 none) r.home) ((r.views id v at).0, refl) (claim_known id),
      ),
      ((λ _. refl), (λ ne. absurd (ne e))),
    )
    claim_hit c st (claimed k) r e = let w = r.word in absurd (omega arith)
    claim_hit c st (waiting k l) r e = ⊎_elim
        (λ (w : slice_index s.words 0 ≡ WAITING). absurd (omega arith))
        (λ (w : slice_index s.words 0 ≡ CALLED). absurd (omega arith)) r.word
    claim_hit c st (taken k l m) r e = let w = r.word in absurd (omega arith)
    claim_hit c st (answered k l) r e = let w = r.word in absurd (omega arith)

    -- a token that left something finds that there still
    withdraw_hit : (c : List (ℕ × Option (Slip L B))) (st : TrayStep L B) (x : L) → v.doing ≡ Waits x
        → (st.first ≡ WAITING) ⊎ (st.first ≡ CALLED) → (spot : Spot L) → Stands fits answers about spot s
        → slice_index s.words 0 ≡ st.first
        → Steps s id (v, c) CLAIMED (Withdraws st (v, c) (slice_index s.words 0))
    withdraw_hit c st x waits old vacant r e =
        absurd (subst (λ d. Knows id d vacant) waits (r.views id v at).1)
    withdraw_hit c st x waits old (claimed k) r e =
        absurd (subst (λ d. Knows id d (claimed k)) waits (r.views id v at).1)
    withdraw_hit c st x waits old (waiting k l) r e = (
      doing_view v Claims,
      takes 0 (Some (Left l)),
      ap (λ hs. get_elem? hs 0) r.home.0,
      (
        claimed id,
        moved fits answers about (waiting k l) (claimed id) s r id CLAIMED (set s.homes 0 none) (doing_view v Claims)
            refl (ap (λ hs. set hs 0 none) r.home.0) ((r.views id v at).0, refl)
            (withdraw_known id k l (subst (λ d. Knows id d (waiting k l)) waits (r.views id v at).1).0),
      ),
      λ y is.
          let known : HasLeft id y (waiting k l) = subst (λ d. Knows id d (waiting k l)) is (r.views id v at).1 in (
            (λ _. ap (λ (z : L). (doing_view v Claims, (0, Some (Left z)) ∷ c)) known.1),
            (λ ne. absurd (ne e)),
          ),
    )
    withdraw_hit c st x waits old (taken k l m) r e = let w = r.word in
        absurd (⊎_elim (λ (o : st.first ≡ WAITING). omega arith) (λ (o : st.first ≡ CALLED). omega arith) old)
    withdraw_hit c st x waits old (answered k l) r e = let w = r.word in
        absurd (⊎_elim (λ (o : st.first ≡ WAITING). omega arith) (λ (o : st.first ≡ CALLED). omega arith) old)

    -- a token that left something finds the answer
    take_back_hit : (c : List (ℕ × Option (Slip L B))) (st : TrayStep L B) (x : L) → v.doing ≡ Waits x
        → (spot : Spot L) → Stands fits answers about spot s → slice_index s.words 0 ≡ ANSWERED
        → Steps s id (v, c) CLAIMED (TakesBack answers st (v, c) (slice_index s.words 0))
    take_back_hit c st x waits vacant r e =
        absurd (subst (λ d. Knows id d vacant) waits (r.views id v at).1)
    take_back_hit c st x waits (claimed k) r e =
        absurd (subst (λ d. Knows id d (claimed k)) waits (r.views id v at).1)
    take_back_hit c st x waits (waiting k l) r e = ⊎_elim
        (λ (w : slice_index s.words 0 ≡ WAITING). absurd (omega arith))
        (λ (w : slice_index s.words 0 ≡ CALLED). absurd (omega arith)) r.word
    take_back_hit c st x waits (taken k l m) r e = let w = r.word in absurd (omega arith)
    take_back_hit c st x waits (answered k l) r e = (
      doing_view v Claims,
      takes 0 (Some (Back r.home.0)),
      ap (λ hs. get_elem? hs 0) r.home.1,
      (
        claimed id,
        moved fits answers about (answered k l) (claimed id) s r id CLAIMED (set s.homes 0 none) (doing_view v Claims)
            refl (ap (λ hs. set hs 0 none) r.home.1) ((r.views id v at).0, refl)
            (take_back_known id k l (subst (λ d. Knows id d (answered k l)) waits (r.views id v at).1).0),
      ),
      λ y is.
          let known : HasLeft id y (answered k l) = subst (λ d. Knows id d (answered k l)) is (r.views id v at).1 in (
            (λ _. (r.home.0, subst (λ (z : L). answers z r.home.0) known.1 r.home.2, refl)),
            (λ ne. absurd (ne e)),
          ),
    )

    -- a token finds something left
    take_up_hit : (c : List (ℕ × Option (Slip L B))) (st : TrayStep L B) (spot : Spot L)
        → Stands fits answers about spot s → slice_index s.words 0 ≡ WAITING
        → Steps s id (v, c) TAKEN (TakesUp fits st (v, c) (slice_index s.words 0))
    take_up_hit c st vacant r e = let w = r.word in absurd (omega arith)
    take_up_hit c st (claimed k) r e = let w = r.word in absurd (omega arith)
    take_up_hit c st (waiting k l) r e = (
      doing_view v (Serves l),
      takes 0 (Some (Left l)),
      ap (λ hs. get_elem? hs 0) r.home.0,
      (
        taken k l id,
        moved fits answers about (waiting k l) (taken k l id) s r id TAKEN (set s.homes 0 none)
            (doing_view v (Serves l)) refl (ap (λ hs. set hs 0 none) r.home.0, r.home.1)
            ((r.views id v at).0, (refl, refl)) (take_up_known id k l),
      ),
      (
        (λ _. (l, subst (λ (y : A). fits y l) (sym (r.views id v at).0) r.home.1, refl)),
        (λ ne. absurd (ne e)),
      ),
    )
    take_up_hit c st (taken k l m) r e = let w = r.word in absurd (omega arith)
    take_up_hit c st (answered k l) r e = let w = r.word in absurd (omega arith)

    -- whoever left what lies there is to take it back
    call_up_hit : (c : List (ℕ × Option (Slip L B))) (st : TrayStep L B) (spot : Spot L)
        → Stands fits answers about spot s → slice_index s.words 0 ≡ WAITING
        → Steps s id (v, c) CALLED (CallsUp st (v, c) (slice_index s.words 0))
    call_up_hit c st vacant r e = let w = r.word in absurd (omega arith)
    call_up_hit c st (claimed k) r e = let w = r.word in absurd (omega arith)
    call_up_hit c st (waiting k l) r e = (
      doing_view v Tells,
      keeps,
      tt,
      (
        waiting k l,
        moved fits answers about (waiting k l) (waiting k l) s r id CALLED s.homes (doing_view v Tells) (inr refl)
            r.home ((r.views id v at).0, tt) (λ j d n known. known),
      ),
      λ _ _. refl,
    )
    call_up_hit c st (taken k l m) r e = let w = r.word in absurd (omega arith)
    call_up_hit c st (answered k l) r e = let w = r.word in absurd (omega arith)

    -- a token leaves what it has in the slot
    put_down_at : (x : L) → fits about x → v.doing ≡ Claims → (st : TrayStep L B) (spot : Spot L)
        → Stands fits answers about spot s
        → Steps s id (v, (0, Some (Left x)) ∷ []) WAITING (PutsDown st (v, (0, Some (Left x)) ∷ []) WAITING)
    put_down_at x fit claims st vacant r = absurd (subst (λ d. Knows id d vacant) claims (r.views id v at).1)
    put_down_at x fit claims st (claimed k) r =
        let known : HasClaimed {L = L} id (claimed k) =
        subst (λ d. Knows id d (claimed k)) claims (r.views id v at).1 in (
          doing_view v (Waits x),
          gives,
          tt,
          (
            waiting id x,
            moved fits answers about (claimed k) (waiting id x) s r id WAITING (set s.homes 0 (some (Some (Left x))))
                (doing_view v (Waits x)) (inl refl) (ap (λ hs. set hs 0 (some (Some (Left x)))) r.home, fit)
                ((r.views id v at).0, (refl, refl)) (claimed_known id k (waiting id x) known),
          ),
          λ y is. ap (λ (z : L). (doing_view v (Waits z), [])) (left_only x y is),
        )
    put_down_at x fit claims st (waiting k l) r =
        absurd (subst (λ d. Knows id d (waiting k l)) claims (r.views id v at).1)
    put_down_at x fit claims st (taken k l m) r =
        absurd (subst (λ d. Knows id d (taken k l m)) claims (r.views id v at).1)
    put_down_at x fit claims st (answered k l) r =
        absurd (subst (λ d. Knows id d (answered k l)) claims (r.views id v at).1)

    -- a token that has the tray to itself makes it vacant
    free_at : v.doing ≡ Claims → (st : TrayStep L B) (spot : Spot L) → Stands fits answers about spot s
        → Steps s id (v, (0, None) ∷ []) VACANT (Parts st (v, (0, None) ∷ []) VACANT)
    free_at claims st vacant r = absurd (subst (λ d. Knows id d vacant) claims (r.views id v at).1)
    free_at claims st (claimed k) r =
        let known : HasClaimed {L = L} id (claimed k) =
        subst (λ d. Knows id d (claimed k)) claims (r.views id v at).1 in (
          doing_view v Nothing,
          gives,
          tt,
          (
            vacant,
            moved fits answers about (claimed k) vacant s r id VACANT (set s.homes 0 (some None))
                (doing_view v Nothing) refl (ap (λ hs. set hs 0 (some None)) r.home)
                ((r.views id v at).0, tt) (claimed_known id k vacant known),
          ),
          refl,
        )
    free_at claims st (waiting k l) r =
        absurd (subst (λ d. Knows id d (waiting k l)) claims (r.views id v at).1)
    free_at claims st (taken k l m) r =
        absurd (subst (λ d. Knows id d (taken k l m)) claims (r.views id v at).1)
    free_at claims st (answered k l) r =
        absurd (subst (λ d. Knows id d (answered k l)) claims (r.views id v at).1)

    -- a token that took something up answers it
    answer_at : (x : L) (b : B) → answers x b → v.doing ≡ Serves x → (st : TrayStep L B) (spot : Spot L)
        → Stands fits answers about spot s
        → Steps s id (v, (0, Some (Back b)) ∷ []) ANSWERED (HasTold st (v, (0, Some (Back b)) ∷ []) ANSWERED)
    answer_at x b good serves st vacant r = absurd (subst (λ d. Knows id d vacant) serves (r.views id v at).1)
    answer_at x b good serves st (claimed k) r =
        absurd (subst (λ d. Knows id d (claimed k)) serves (r.views id v at).1)
    answer_at x b good serves st (waiting k l) r =
        absurd (subst (λ d. Knows id d (waiting k l)) serves (r.views id v at).1)
    answer_at x b good serves st (taken k l m) r =
        let known : HasTaken id x (taken k l m) = subst (λ d. Knows id d (taken k l m)) serves (r.views id v at).1 in (
          doing_view v Tells,
          gives,
          tt,
          (
            answered k l,
            moved fits answers about (taken k l m) (answered k l) s r id ANSWERED
                (set s.homes 0 (some (Some (Back b)))) (doing_view v Tells) refl (
                  b,
                  ap (λ hs. set hs 0 (some (Some (Back b)))) r.home.0,
                  subst (λ (y : L). answers y b) (sym known.1) good,
                )
                ((r.views id v at).0, tt) (answer_known id k m l known.0),
          ),
          ((λ _. refl), (λ _. refl)),
        )
    answer_at x b good serves st (answered k l) r =
        absurd (subst (λ d. Knows id d (answered k l)) serves (r.views id v at).1)

    -- or puts it back, and calls up whoever left it
    put_back_at : (x : L) → v.doing ≡ Serves x → (st : TrayStep L B) (spot : Spot L)
        → Stands fits answers about spot s
        → Steps s id (v, (0, Some (Left x)) ∷ []) CALLED (HasTold st (v, (0, Some (Left x)) ∷ []) CALLED)
    put_back_at x serves st vacant r = absurd (subst (λ d. Knows id d vacant) serves (r.views id v at).1)
    put_back_at x serves st (claimed k) r =
        absurd (subst (λ d. Knows id d (claimed k)) serves (r.views id v at).1)
    put_back_at x serves st (waiting k l) r =
        absurd (subst (λ d. Knows id d (waiting k l)) serves (r.views id v at).1)
    put_back_at x serves st (taken k l m) r =
        let known : HasTaken id x (taken k l m) = subst (λ d. Knows id d (taken k l m)) serves (r.views id v at).1 in (
          doing_view v Tells,
          gives,
          tt,
          (
            waiting k l,
            moved fits answers about (taken k l m) (waiting k l) s r id CALLED
                (set s.homes 0 (some (Some (Left x)))) (doing_view v Tells) (inr refl) (
                  ap (λ hs. set hs 0 (some (Some (Left x)))) r.home.0
                      ∙ ap (λ (y : L). some (Some (Left y)) ∷ []) (sym known.1),
                  r.home.1,
                )
                ((r.views id v at).0, tt) (put_back_known id k m l known.0),
          ),
          ((λ _. refl), (λ _. refl)),
        )
    put_back_at x serves st (answered k l) r =
        absurd (subst (λ d. Knows id d (answered k l)) serves (r.views id v at).1)

  -- what the table asks of a token that claims the tray
  pub claims : (slots id : ℕ) (v : View A L) (c : List (ℕ × Option (Slip L B))) (st : TrayStep L B)
      → Allows (Ruled fits answers about) slots id (v, c) 0 (λ n. either (n == VACANT) CLAIMED n) (Claimed st (v, c))
  claims slots id v c st s (spot, r) deep at small = exchanges s id v c VACANT CLAIMED (Claimed st (v, c))
      (claim_hit s id v at c st spot r)
      (λ ne. stays s id v at c v spot r (r.views id v at) (Claimed st (v, c) (slice_index s.words 0))
      ((λ e. absurd (ne e)), (λ _. refl)))

  -- of one that takes the answer
  pub takes_back : (slots id : ℕ) (v : View A L) (c : List (ℕ × Option (Slip L B))) (st : TrayStep L B) (x : L)
      → v.doing ≡ Waits x
      → Allows (Ruled fits answers about) slots id (v, c) 0 (λ n. either (n == ANSWERED) CLAIMED n)
      (TakesBack answers st (v, c))
  takes_back slots id v c st x waits s (spot, r) deep at small = exchanges s id v c ANSWERED CLAIMED
      (TakesBack answers st (v, c)) (take_back_hit s id v at c st x waits spot r)
      (λ ne. stays s id v at c (missed_view v ANSWERED) spot r (r.views id v at)
      (TakesBack answers st (v, c) (slice_index s.words 0)) (λ y is. ((λ e. absurd (ne e)), (λ _. refl))))

  -- of one that takes back what it left
  pub withdraws : (slots id : ℕ) (v : View A L) (c : List (ℕ × Option (Slip L B))) (st : TrayStep L B) (x : L)
      → v.doing ≡ Waits x → (st.first ≡ WAITING) ⊎ (st.first ≡ CALLED)
      → Allows (Ruled fits answers about) slots id (v, c) 0 (λ n. either (n == st.first) CLAIMED n)
      (Withdraws st (v, c))
  withdraws slots id v c st x waits old s (spot, r) deep at small = exchanges s id v c st.first CLAIMED
      (Withdraws st (v, c)) (withdraw_hit s id v at c st x waits old spot r)
      (λ ne. stays s id v at c (missed_view v st.first) spot r (r.views id v at)
      (Withdraws st (v, c) (slice_index s.words 0)) (λ y is. ((λ e. absurd (ne e)), (λ _. refl))))

  -- of one that takes up what was left
  pub takes_up : (slots id : ℕ) (v : View A L) (c : List (ℕ × Option (Slip L B))) (st : TrayStep L B)
      → Allows (Ruled fits answers about) slots id (v, c) 0 (λ n. either (n == WAITING) TAKEN n)
      (TakesUp fits st (v, c))
  takes_up slots id v c st s (spot, r) deep at small = exchanges s id v c WAITING TAKEN
      (TakesUp fits st (v, c)) (take_up_hit s id v at c st spot r)
      (λ ne. stays s id v at c (missed_view v WAITING) spot r (r.views id v at)
      (TakesUp fits st (v, c) (slice_index s.words 0)) ((λ e. absurd (ne e)), (λ _. refl)))

  -- of one after which whoever left something is to take it back
  pub calls_up : (slots id : ℕ) (v : View A L) (c : List (ℕ × Option (Slip L B))) (st : TrayStep L B)
      → Allows (Ruled fits answers about) slots id (v, c) 0 (λ n. either (n == WAITING) CALLED n)
      (CallsUp st (v, c))
  calls_up slots id v c st s (spot, r) deep at small = exchanges s id v c WAITING CALLED
      (CallsUp st (v, c)) (call_up_hit s id v at c st spot r)
      (λ ne. stays s id v at c (doing_view v Tells) spot r ((r.views id v at).0, tt)
      (CallsUp st (v, c) (slice_index s.words 0)) (λ _ _. refl))

  -- of one that leaves this
  pub puts_down : (slots id : ℕ) (m : Token A L B) (st : TrayStep L B) (x : L) → fits about x → m.0.doing ≡ Claims
      → m.1 ≡ (0, Some (Left x)) ∷ []
      → Allows (Ruled fits answers about) slots id m 0 (λ _. WAITING) (λ _. PutsDown st m WAITING)
  puts_down slots id (v, c) st x fit has is = subst
      (λ (d : List (ℕ × Option (Slip L B))). Allows (Ruled fits answers about) slots id (v, d) 0 (λ _. WAITING)
      (λ _. PutsDown st (v, d) WAITING)) (sym is)
      (λ s h deep at small. put_down_at s id v at x fit has st h.0 h.1)

  -- of one that makes the tray vacant
  pub frees : (slots id : ℕ) (m : Token A L B) (st : TrayStep L B) → m.0.doing ≡ Claims → m.1 ≡ (0, None) ∷ []
      → Allows (Ruled fits answers about) slots id m 0 (λ _. VACANT) (λ _. Parts st m VACANT)
  frees slots id (v, c) st has is = subst
      (λ (d : List (ℕ × Option (Slip L B))). Allows (Ruled fits answers about) slots id (v, d) 0 (λ _. VACANT)
      (λ _. Parts st (v, d) VACANT)) (sym is)
      (λ s h deep at small. free_at s id v at has st h.0 h.1)

  -- of one that answers what it took up
  pub gives_answer : (slots id : ℕ) (m : Token A L B) (st : TrayStep L B) (x : L) (b : B) → answers x b
      → m.0.doing ≡ Serves x → m.1 ≡ (0, Some (Back b)) ∷ []
      → Allows (Ruled fits answers about) slots id m 0 (λ _. ANSWERED) (λ _. HasTold st m ANSWERED)
  gives_answer slots id (v, c) st x b good has is = subst
      (λ (d : List (ℕ × Option (Slip L B))). Allows (Ruled fits answers about) slots id (v, d) 0 (λ _. ANSWERED)
      (λ _. HasTold st (v, d) ANSWERED)) (sym is)
      (λ s h deep at small. answer_at s id v at x b good has st h.0 h.1)

  -- of one that puts it back, and calls up whoever left it
  pub puts_back : (slots id : ℕ) (m : Token A L B) (st : TrayStep L B) (x : L) → m.0.doing ≡ Serves x
      → m.1 ≡ (0, Some (Left x)) ∷ []
      → Allows (Ruled fits answers about) slots id m 0 (λ _. CALLED) (λ _. HasTold st m CALLED)
  puts_back slots id (v, c) st x has is = subst
      (λ (d : List (ℕ × Option (Slip L B))). Allows (Ruled fits answers about) slots id (v, d) 0 (λ _. CALLED)
      (λ _. HasTold st (v, d) CALLED)) (sym is)
      (λ s h deep at small. put_back_at s id v at x has st h.0 h.1)
