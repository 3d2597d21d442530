-- What is told of lives, where one of them changes or one is added.
use Rattle.std.proofs.Common.{◌≡◌, ℕ, ◌-◌, ◌<◌, ◌≤◌, true, List, [], ◌∷◌, ◌++◌, length, get_or, set, Some}
use Rattle.std.proofs.Common.{refl, sym, ap, ◌∙◌, subst, inl, inr, arith}
use Rattle.std.proofs.lemmas.Bool.{cases_eq, cases_lt}
use Rattle.std.proofs.lemmas.List.{length_push, length-set, get_or-set_same, get_or-set_other, get_or-append_right}
use Rattle.std.proofs.lemmas.List.{get_or_append_left, get_or-map, length-map}
use Rattle.std.proofs.lemmas.List.Elements.{All-contains, All-from_recursion, Contains-get_or}
use Rattle.minislots.specs.declared.config.Config.{Config}
use Rattle.minislots.specs.Config.{IsLawful}
use Rattle.sched_calls.specs.declared.spec.FlowSpec.TheVariants.{BestEffort}
use Rattle.map_build.specs.declared.met.Met.{Met}
use Rattle.sched_calls.specs.declared.call.Call.{Call}
use Rattle.sched_calls.specs.declared.call.Call.TheVariants as calls
use Rattle.sched_calls.specs.declared.reply.Reply.{Reply}
use Rattle.sched_calls.specs.declared.reply.Reply.TheVariants as replies
use Rattle.sched_calls.specs.declared.reply.Entry.{Entry}
use Rattle.sched_calls.specs.declared.reply.TheConstants.{MAX_WHOLE_HISTORY}
use Rattle.sched_history.specs.History.{IsStep, IsLegal}
use Rattle.sched_history.specs.Reserves.{met_after}
use Rattle.sched_history.specs.Time.{next_after}
use Rattle.sched_report.specs.declared.life.LifeTally.{LifeTally}
use Rattle.sched_report.specs.declared.lives.Opening.{Opening}
use Rattle.sched_report.specs.declared.service.Request.{Request}
use Rattle.sched_report.specs.Lives.{PastLife, opening_by, lives_of, passing, lives_in, IsRequest, IsOpening}
use Rattle.sched_report.specs.Requests.{request_by}
use Rattle.sched_report.specs.Told.{IsLifeOf}
use Rattle.sched_report.specs.ToldLives.{AreLives, MayNoteEach, MeetsEach}
use Rattle.sched_report.proofs.LegalLives.{IsLifeIn, are_lives, passing-in}
use Rattle.sched_report.proofs.MayNotes.{may_note}

-- a request is one
pub is_request : (c : Config) (sid : ℕ) (call : Call) (reply : Reply) (r : Request)
    → request_by c sid call reply ≡ Some r → IsRequest call reply
is_request c sid (calls.Ask receiver other amount heard) replies.Taken r is = tt
is_request c sid (calls.Replace receiver other amount heard) replies.Taken r is = tt
is_request c sid call reply r is = absurd (cc)

-- an admission begins a life
pub is_opening : (call : Call) (reply : Reply) (o : Opening) → opening_by call reply ≡ Some o → IsOpening call reply
is_opening (calls.Admit sid spec) (replies.Admitted placement) o is = tt
is_opening call reply o is = absurd (cc)

-- what a place past the end of a list of lives is read as; no definition depends on it
abbrev pub no_life : PastLife
no_life = record { sid = 0; first = BestEffort 0 0 0 0 0 0; upto = []; since = []; ended = true; passed = 0 }

module _ (c : Config) (ts : List LifeTally) (ls : List PastLife) (are : AreLives c ts ls) where
  -- one of them changes, and what is told of its life stays
  pub AreLives-set : (i : ℕ) (old new : LifeTally) → i < length ts
      → ((life : PastLife) → IsLifeOf c (get_or ts i old) life → IsLifeOf c new life) → AreLives c (set ts i new) ls
  AreLives-set i old new inside stays = record {
    long = length-set ts i new ∙ are.long;
    each = λ k t life below. elim (cases_eq k i) [
      | inl same ↦
          let at_place : IsLifeOf c (get_or (set ts i new) i t) (get_or ls i life) =
          subst (λ u. IsLifeOf c u (get_or ls i life)) (sym (get_or-set_same ts i new t inside))
          (stays (get_or ls i life) (are.each i old life inside)) in
          subst (λ k. IsLifeOf c (get_or (set ts i new) k t) (get_or ls k life)) (sym same) at_place
      | inr apart ↦
          subst (λ u. IsLifeOf c u (get_or ls k life)) (sym (get_or-set_other ts i k new t apart))
          (are.each k t life (omega (arith, below, length-set ts i new)))
    ];
  }

  -- one is added
  pub AreLives-push : (new : LifeTally) (last : PastLife) → IsLifeOf c new last
      → AreLives c (ts ++ new ∷ []) (ls ++ last ∷ [])
  AreLives-push new last is = record {
    long = omega (arith, are.long, length_push ts new, length_push ls last);
    each = λ k t life below. elim (cases_lt k (length ts)) [
      | inl before ↦
          let in_lives : k < length ls = omega (arith, before, are.long) in
          subst (λ u. IsLifeOf c u (get_or (ls ++ last ∷ []) k life))
          (sym (get_or_append_left ts (new ∷ []) t k before))
          (subst (IsLifeOf c (get_or ts k t)) (sym (get_or_append_left ls (last ∷ []) life k in_lives))
          (are.each k t life before))
      | inr behind ↦
          let end : k ≡ length ts = omega (arith, behind, below, length_push ts new) in
          let zero_th : k - length ts ≡ 0 = omega (arith, end) in
          let here : get_or (ts ++ new ∷ []) k t ≡ new =
          get_or-append_right ts (new ∷ []) (length ts) k t refl behind
          ∙ ap (λ n. get_or (new ∷ []) n t) zero_th in
          let there : get_or (ls ++ last ∷ []) k life ≡ last =
          get_or-append_right ls (last ∷ []) (length ts) k life (sym are.long) behind
          ∙ ap (λ n. get_or (last ∷ []) n life) zero_th in
          subst (λ u. IsLifeOf c u (get_or (ls ++ last ∷ []) k life)) (sym here)
          (subst (IsLifeOf c new) (sym there) is)
    ];
  }

module _ (c : Config) (p : ℕ) (h : List Entry) (legal : IsLegal c h) (few : p ≤ length h) where
  -- each life of a legal history is one of its
  pub life_in : (k : ℕ) (life : PastLife) → k < length (lives_in p h) → IsLifeIn h (get_or (lives_in p h) k life)
  life_in k life below =
      let within : k < length (lives_of h) = omega (arith, below, length-map (lives_of h) (passing p)) in
      subst (IsLifeIn h) (sym (get_or-map (passing p) (lives_of h) k life life within))
      (passing-in h p (get_or (lives_of h) k life) few
      (All-contains (IsLifeIn h) (lives_of h) (get_or (lives_of h) k life)
      (All-from_recursion (IsLifeIn h) (lives_of h) (are_lives c h legal))
      (Contains-get_or (lives_of h) k life within)))

  -- the entry may follow each life of a legal history
  pub may_note_each : IsLawful c → (e : Entry) → IsStep c h e.call e.reply → length h < MAX_WHOLE_HISTORY
      → MayNoteEach c (lives_in p h) (next_after c h) e
  may_note_each lawful e step short k life below =
      may_note c lawful h legal e step short (get_or (lives_in p h) k life) (life_in k life below)

  -- and its MAP meets in each of them what it meets in the history
  pub meets_each : (e : Entry) (met : List Met) → met ≡ met_after c h e.reply → MeetsEach c (lives_in p h) e met
  meets_each e met meets k life below alive =
      meets ∙ ap (λ (es : List Entry). met_after c es e.reply) (sym ((life_in k life below).whole alive))
