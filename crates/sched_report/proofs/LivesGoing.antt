-- The places of the lives that go on, where lives change or one is added.
use Rattle.std.proofs.Common.{◌≡◌, ℕ, ◌<◌, ◌==◌, Bool, true, false, List, [], ◌∷◌, ◌++◌, map}
use Rattle.std.proofs.Common.{length, get_or, set, None, Some, refl, sym, ap, ◌∙◌, subst, inl, inr}
use Rattle.std.proofs.Common.{if◌then◌else◌, arith}
use Rattle.std.specs.Prelude.{is_some}
use Rattle.std.proofs.lemmas.Bool.{cases_eq, cases_lt, cases_Bool, eq-eqb}
use Rattle.std.proofs.lemmas.List.{length_push, length-set, get_or-set_same, get_or-set_other}
use Rattle.std.proofs.lemmas.List.{get_or_append_left, get_or_push, get_or-map, length-map}
use Rattle.minislots.specs.declared.config.Config.{Config}
use Rattle.sched_calls.specs.declared.call.Call.{Call}
use Rattle.sched_calls.specs.declared.call.Call.TheVariants as calls
use Rattle.sched_calls.specs.declared.reply.Reply.{Reply}
use Rattle.sched_calls.specs.declared.reply.Reply.TheVariants as replies
use Rattle.sched_calls.specs.declared.reply.Entry.{Entry}
use Rattle.sched_history.specs.Life.{Begins, turn_by}
use Rattle.sched_history.specs.Time.{next_after}
use Rattle.sched_report.specs.declared.life.LifeTally.{LifeTally}
use Rattle.sched_report.specs.declared.lives.Opening.{Opening}
use Rattle.sched_report.specs.Lives.{PastLife, is_turn, opening_by, with_entry}
use Rattle.sched_report.specs.Live.{AreLive, IsAlone}
use Rattle.sched_report.specs.Told.{IsLifeOf}
use Rattle.sched_report.specs.ToldLives.{AreLives}
use Rattle.sched_report.proofs.LifeNotes.{not_ended}
use Rattle.sched_report.proofs.LivesEach.{no_life}

-- a life that has ended stays as it is with one entry more
pub with_entry-ended : (e : Entry) (life : PastLife) → life.ended ≡ true → with_entry e life ≡ life
with_entry-ended e life ended =
    ap (λ b. if b then life else if is_turn life.sid e then record life { ended = true }
    else record life { since = life.since ++ e ∷ [] }) ended

-- of three lives with one SID any has it
chosen-sid : (a b : Bool) (x y z : PastLife) (sid : ℕ) → x.sid ≡ sid → y.sid ≡ sid → z.sid ≡ sid
    → (if a then x else if b then y else z).sid ≡ sid
chosen-sid true b x y z sid p q r = p
chosen-sid false true x y z sid p q r = q
chosen-sid false false x y z sid p q r = r

-- its SID stays
with_entry-sid : (e : Entry) (life : PastLife) → (with_entry e life).sid ≡ life.sid
with_entry-sid e life =
    chosen-sid life.ended (is_turn life.sid e) life (record life { ended = true })
    (record life { since = life.since ++ e ∷ [] }) life.sid refl refl refl

-- an admission is a turn of its SID
opening_turn : (sid : ℕ) (call : Call) (reply : Reply) (o : Opening) → opening_by call reply ≡ Some o → sid ≡ o.sid
    → is_some (turn_by sid call reply) ≡ true
opening_turn sid (calls.Admit other spec) (replies.Admitted placement) o is same =
    let opened : record { sid = other; spec = spec } ≡ o = cc in
    let here : (other == sid) ≡ true = eq-eqb other sid (ap (λ (o : Opening). o.sid) opened ∙ sym same) in
    ap (λ b. is_some (if b then Some (Begins (record { spec = spec; placement = placement })) else None)) here
opening_turn sid call reply o is same = absurd (cc)

-- so it ends the life that its SID had
opening-ends : (e : Entry) (life : PastLife) (o : Opening) → opening_by e.call e.reply ≡ Some o → life.sid ≡ o.sid
    → (with_entry e life).ended ≡ true
opening-ends e life o is same =
    elim (cases_Bool life.ended) [
      | inl ended ↦ ap (λ (l : PastLife). l.ended) (with_entry-ended e life ended) ∙ ended
      | inr alive ↦
          ap (λ b. (if b then life else if is_turn life.sid e then record life { ended = true }
          else record life { since = life.since ++ e ∷ [] }).ended) alive
          ∙ ap (λ b. (if b then record life { ended = true }
          else record life { since = life.since ++ e ∷ [] }).ended) (opening_turn life.sid e.call e.reply o is same)
    ]

-- and no life goes on under it
pub alone-after : (c : Config) (ts : List LifeTally) (ls : List PastLife) (e : Entry)
    → AreLives c ts (map (with_entry e) ls) → IsAlone e.call e.reply ts
alone-after c ts ls e are o is k t below alive same =
    let life : PastLife = get_or ls k no_life in
    let now : PastLife = with_entry e life in
    let in_lives : k < length ls = omega (arith, below, are.long, length-map ls (with_entry e)) in
    let told : IsLifeOf c (get_or ts k t) now =
    subst (IsLifeOf c (get_or ts k t)) (get_or-map (with_entry e) ls k no_life no_life in_lives)
    (are.each k t no_life below) in
    let ended : now.ended ≡ true =
    opening-ends e life o is (sym (with_entry-sid e life) ∙ sym told.sid ∙ same) in
    let goes_on : now.ended ≡ false =
    not_ended now.ended (next_after c (now.upto ++ now.since)) (get_or ts k t).to told.to (ap is_some alive) in
    let both : true ≡ false = sym ended ∙ goes_on in absurd cc

-- lives change, each into one that is told of its life with the entry, where something holds of each life
pub AreLives-map : (c : Config) (old new : List LifeTally) (ls : List PastLife) (e : Entry) (P : PastLife → Type 0)
    → AreLives c old ls → ((k : ℕ) (life : PastLife) → k < length ls → P (get_or ls k life))
    → length new ≡ length old
    → ((k : ℕ) (t : LifeTally) (life : PastLife) → k < length old → IsLifeOf c (get_or old k t) life
    → P life → IsLifeOf c (get_or new k t) (with_entry e life))
    → AreLives c new (map (with_entry e) ls)
AreLives-map c old new ls e P are may long step = record {
  long = long ∙ are.long ∙ sym (length-map ls (with_entry e));
  each = λ k t life below.
      let within : k < length old = omega (arith, below, long) in
      let in_lives : k < length ls = omega (arith, within, are.long) in
      subst (IsLifeOf c (get_or new k t)) (sym (get_or-map (with_entry e) ls k life life in_lives))
      (step k t (get_or ls k life) within (are.each k t life within) (may k life in_lives));
}

module _ (places : List ℕ) (ts : List LifeTally) (are : AreLive places ts) where
  -- lives change, and each keeps its SID, and its end where it has one
  pub AreLive-still : (new : List LifeTally) → length new ≡ length ts
      → ((k : ℕ) (t : LifeTally) → k < length ts → (get_or new k t).sid ≡ (get_or ts k t).sid)
      → ((k : ℕ) (t : LifeTally) → k < length ts → (get_or new k t).to ≡ None → (get_or ts k t).to ≡ None)
      → AreLive places new
  AreLive-still new long same still = record {
    long = are.long;
    each = λ k t below alive.
        let within : k < length ts = omega (arith, below, long) in
        ap (λ (sid : ℕ). get_or places sid 0) (same k t within) ∙ are.each k t within (still k t within alive);
  }

  -- one of them does
  pub AreLive-set : (p : ℕ) (old new : LifeTally) → p < length ts → new.sid ≡ (get_or ts p old).sid
      → (new.to ≡ None → (get_or ts p old).to ≡ None) → AreLive places (set ts p new)
  AreLive-set p old new inside same still = record {
    long = are.long;
    each = λ k t below alive. elim (cases_eq k p) [
      | inl at ↦
          let here : get_or (set ts p new) k t ≡ new =
          ap (λ k. get_or (set ts p new) k t) at ∙ get_or-set_same ts p new t inside in
          ap (λ (u : LifeTally). get_or places u.sid 0) here ∙ ap (λ (sid : ℕ). get_or places sid 0) same
          ∙ are.each p old inside (still (ap (λ (u : LifeTally). u.to) (sym here) ∙ alive)) ∙ sym at
      | inr apart ↦
          let there = get_or-set_other ts p k new t apart in
          ap (λ (u : LifeTally). get_or places u.sid 0) there
          ∙ are.each k t (omega (arith, below, length-set ts p new))
          (ap (λ (u : LifeTally). u.to) (sym there) ∙ alive)
    ];
  }

  -- one is added under a SID under which none goes on
  pub AreLive-push : (new : LifeTally) (sid place : ℕ) → new.sid ≡ sid → place ≡ length ts → sid < 65536
      → ((k : ℕ) (t : LifeTally) → k < length ts → (get_or ts k t).to ≡ None → (get_or ts k t).sid ≡ sid → ⊥)
      → AreLive (set places sid place) (ts ++ new ∷ [])
  AreLive-push new sid place is at small alone = record {
    long = length-set places sid place ∙ are.long;
    each = λ k t below alive. elim (cases_lt k (length ts)) [
      | inl old ↦
          let left = get_or_append_left ts (new ∷ []) t k old in
          let goes_on : (get_or ts k t).to ≡ None = ap (λ (u : LifeTally). u.to) (sym left) ∙ alive in
          ap (λ (u : LifeTally). get_or (set places sid place) u.sid 0) left
          ∙ get_or-set_other places sid (get_or ts k t).sid place 0 (alone k t old goes_on)
          ∙ are.each k t old goes_on
      | inr now ↦
          let end : length ts ≡ k = omega (arith, now, below, length_push ts new) in
          ap (λ (u : LifeTally). get_or (set places sid place) u.sid 0) (get_or_push ts new t k end)
          ∙ ap (λ (s : ℕ). get_or (set places sid place) s 0) is
          ∙ get_or-set_same places sid place 0 (omega (arith, small, are.long)) ∙ at ∙ end
    ];
  }
