-- What the entries of a history meet, told one by one.
use Rattle.std.proofs.Common.{◌≡◌, ℕ, zero, suc, ◌<◌, ◌≤◌, Bool, List, [], ◌∷◌, ◌++◌, length, take, get_or, refl, sym}
use Rattle.std.proofs.Common.{ap, ◌∙◌, arith, append_assoc, append-nil, subst, inl, inr}
use Rattle.std.specs.Prelude.{if◌then◌else◌}
use Rattle.std.specs.Global.{Vec}
use Rattle.std.proofs.lemmas.Bool.{cases_lt, lt-ltb, le-ltb}
use Rattle.std.proofs.lemmas.List.{get_or_past, length-take-le, take_all}
use Rattle.std.proofs.lemmas.Option.{slice_get_read}
use Rattle.minislots.specs.declared.config.Config.{Config}
use Rattle.map_build.specs.declared.met.Met.{Met}
use Rattle.sched_calls.specs.declared.reply.Entry.{Entry}
use Rattle.sched_calls.specs.declared.reply.Reply.{Reply}
use Rattle.sched_history.specs.History.{IsStep, IsLegal}
use Rattle.sched_history.specs.Audit.{IsFirstIllegal}
use Rattle.sched_history.specs.Reserves.{met_after}
use Rattle.sched_history.proofs.state.Judging.{IsFirstIllegal-not}
use Rattle.frame_picture.specs.Meeting.{IsLegalFront, met_within, met_by_each, met_lists, IsMetByFront, TellsMet}

-- one entry more
pub met_by_each-push : (c : Config) (before xs : List Entry) (e : Entry)
    → met_by_each c before (xs ++ e ∷ []) ≡ met_by_each c before xs ++ met_after c (before ++ xs) e.reply ∷ []
met_by_each-push c before [] e =
    ap (λ (b : List Entry). met_after c b e.reply ∷ []) (sym (append-nil before))
met_by_each-push c before (x ∷ xs) e =
    ap (λ (ms : List (List Met)). met_after c before x.reply ∷ ms) (met_by_each-push c (before ++ x ∷ []) xs e)
    ∙ ap (λ (b : List Entry).
    met_by_each c before (x ∷ xs) ++ met_after c b e.reply ∷ []) (append_assoc before (x ∷ []) xs)

-- there is a list for each entry
pub length-met_by_each : (c : Config) (before es : List Entry) → length (met_by_each c before es) ≡ length es
length-met_by_each c before [] = refl
length-met_by_each c before (e ∷ es) = ap suc (length-met_by_each c (before ++ e ∷ []) es)

-- the one at a place among those of a front
met_by_each-at : (c : Config) (before es : List Entry) (n i : ℕ) (d : Entry) → i < n → i < length es
    → get_or (met_by_each c before (take n es)) i [] ≡ met_after c (before ++ take i es) (get_or es i d).reply
met_by_each-at c before [] n i d front below = absurd (omega (arith, below))
met_by_each-at c before (e ∷ es) zero i d front below = absurd (omega (arith, front))
met_by_each-at c before (e ∷ es) (suc n) zero d front below =
    ap (λ (b : List Entry). met_after c b e.reply) (sym (append-nil before))
met_by_each-at c before (e ∷ es) (suc n) (suc i) d front below =
    met_by_each-at c (before ++ e ∷ []) es n i d (omega (arith, front)) (omega (arith, below))
    ∙ ap (λ (b : List Entry). met_after c b (get_or es i d).reply) (append_assoc before (e ∷ []) (take i es))

-- a reply that follows legal entries alone goes by the plan
within-plan : (c : Config) (n : ℕ) (before : List Entry) (reply : Reply) → length before < n
    → met_within c n before reply ≡ met_after c before reply
unfolding met_within
within-plan c n before reply inside =
    ap (λ (b : Bool). if b then met_after c before reply else []) (lt-ltb (length before) n inside)

-- any other meets nothing
within-none : (c : Config) (n : ℕ) (before : List Entry) (reply : Reply) → n ≤ length before
    → met_within c n before reply ≡ []
unfolding met_within
within-none c n before reply behind =
    ap (λ (b : Bool). if b then met_after c before reply else []) (le-ltb (length before) n behind)

-- what each entry meets that stands behind others
pub tells-each : (c : Config) (before es : List Entry) (found : List (List Met)) → found ≡ met_by_each c before es
    → TellsMet (met_after c) before es found
tells-each c before es found each = λ i d below.
    ap (λ (ms : List (List Met)). get_or ms i []) each
    ∙ ap (λ (xs : List Entry). get_or (met_by_each c before xs) i [])
    (sym (take_all (length es) es (omega arith)))
    ∙ met_by_each-at c before es (length es) i d below below

-- what each entry of a history meets, as far as it is legal
pub tells-front : (c : Config) (h : List Entry) (found : List (List Met)) → IsMetByFront c h found
    → TellsMet (met_within c (length found)) [] h found
tells-front c h found is = λ i d below.
    let size : length (take i h) ≡ i = length-take-le i h (omega (arith, below)) in
    elim (cases_lt i (length found)) [
      | inl inside ↦
          ap (λ (ms : List (List Met)). get_or ms i []) is.each
          ∙ met_by_each-at c [] h (length found) i d inside below
          ∙ sym (within-plan c (length found) (take i h) (get_or h i d).reply (omega (arith, size, inside)))
      | inr outside ↦
          get_or_past found i [] outside
          ∙ sym (within-none c (length found) (take i h) (get_or h i d).reply (omega (arith, size, outside)))
    ]

-- all entries of a legal history are legal
front-whole : (c : Config) (h : List Entry) (n : ℕ) → IsLegalFront c h n → IsLegal c h → n ≡ length h
front-whole c h n (inl all) legal = all.1
front-whole c h n (inr first) legal = absurd (IsFirstIllegal-not c h n legal first)

-- what each entry of a legal history meets
pub tells-legal : (c : Config) (h : List Entry) (found : List (List Met)) → IsMetByFront c h found → IsLegal c h
    → TellsMet (met_after c) [] h found
tells-legal c h found is legal =
    tells-each c [] h found
    (is.each ∙ ap (met_by_each c []) (take_all (length found) h (omega (arith, front-whole c h _ is.front legal))))

-- the entries gone through are legal, and what each meets is found
module _ (c : Config) (h : List Entry) (found : List (List Met)) (i : ℕ) (within : i ≤ length h)
    (legal : IsLegal c (take i h)) (each : found ≡ met_by_each c [] (take i h)) where
  size : length found ≡ i
  size = ap length each ∙ length-met_by_each c [] (take i h) ∙ length-take-le i h within

  front : found ≡ met_by_each c [] (take (length found) h)
  front = subst (λ n. found ≡ met_by_each c [] (take n h)) (sym size) each

  -- they are all
  pub front-all : length h ≤ i → IsMetByFront c h found
  front-all end = record {
    front = inl (subst (IsLegal c) (take_all i h end) legal, omega (arith, size, within, end));
    each = front;
  }

  -- or the next one may not follow them
  pub front-first : (e : Entry) → i < length h → e ≡ get_or h i e → (IsStep c (take i h) e.call e.reply → ⊥)
      → IsMetByFront c h found
  front-first e below is no_step =
      let first : IsFirstIllegal c h i = record {
        entry = e;
        stands = slice_get_read h (length h) i e refl below is;
        legal_before = legal;
        no_step = no_step;
      } in
      record { front = inr (subst (λ n. IsFirstIllegal c h n) (sym size) first); each = front }

-- a list more
pub met_lists-push : (found : List (Vec Met)) (met : Vec Met)
    → met_lists (found ++ met ∷ []) ≡ met_lists found ++ met.items ∷ []
met_lists-push [] met = refl
met_lists-push (x ∷ found) met = ap (λ (ms : List (List Met)). x.items ∷ ms) (met_lists-push found met)
