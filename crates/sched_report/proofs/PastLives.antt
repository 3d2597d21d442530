-- The lives of a history with one entry more.
use Rattle.std.proofs.Common.{◌≡◌, ℕ, ◌-◌, ◌≤◌, ◌||◌, Bool, true, false, List, [], ◌∷◌, ◌++◌, map, Option, None, Some, refl, sym, ap}
use Rattle.std.proofs.Common.{◌∙◌, if◌then◌else◌, append_assoc, length, arith}
use Rattle.std.specs.List.{list_any}
use Rattle.std.proofs.lemmas.List.{append-nil, map-append, length_push}
use Rattle.sched_calls.specs.declared.reply.Entry.{Entry}
use Rattle.sched_report.specs.declared.lives.Opening.{Opening}
use Rattle.sched_report.specs.Lives.{PastLife, opening_by, is_turn, until, life_begun}
use Rattle.sched_report.specs.Lives.{lives_after, lives_of, passing, lives_in, with_entry}

-- some entries with one more, where one of them has passed a test or not, and the last one passes it or not
abbrev pub more_until : Bool → Bool → Entry → List Entry → List Entry
more_until passed passes e es = if passed then es else if passes then es else es ++ e ∷ []

until_behind : (b passed passes : Bool) (x e : Entry) (es more : List Entry) → more ≡ more_until passed passes e es
    → (if b then [] else x ∷ more) ≡ more_until (b || passed) passes e (if b then [] else x ∷ es)
until_behind true passed passes x e es more is = refl
until_behind false true passes x e es more is = ap (λ (es : List Entry). x ∷ es) is
until_behind false false true x e es more is = ap (λ (es : List Entry). x ∷ es) is
until_behind false false false x e es more is = ap (λ (es : List Entry). x ∷ es) is

either_passes : (b passed passes more : Bool) → more ≡ (passed || passes) → (b || more) ≡ ((b || passed) || passes)
either_passes true passed passes more is = refl
either_passes false passed passes more is = is

same_test : (b : Bool) → (b || false) ≡ b
same_test true = refl
same_test false = refl

module _ (test : Entry → Bool) where
  -- up to the next entry that passes a test, with one entry more
  pub until-push : (es : List Entry) (e : Entry)
      → until test (es ++ e ∷ []) ≡ more_until (list_any test es) (test e) e (until test es)
  until-push [] e = refl
  until-push (x ∷ es) e =
      until_behind (test x) (list_any test es) (test e) x e (until test es) (until test (es ++ e ∷ []))
      (until-push es e)

  -- and whether one has passed it
  pub any-push : (es : List Entry) (e : Entry) → list_any test (es ++ e ∷ []) ≡ (list_any test es || test e)
  any-push [] e = same_test (test e)
  any-push (x ∷ es) e =
      either_passes (test x) (list_any test es) (test e) (list_any test (es ++ e ∷ [])) (any-push es e)

-- a life of a SID, with these entries
abbrev life_with : Opening → List Entry → List Entry → Bool → PastLife
life_with o upto since ended =
    record { sid = o.sid; first = o.spec; upto = upto; since = since; ended = ended; passed = 0 }

-- a life with one entry more, by whether it has ended and whether the entry ends it
life_more : (o : Opening) (upto since more : List Entry) (ended ends last : Bool) (e : Entry)
    → more ≡ more_until ended ends e since → last ≡ (ended || ends)
    → life_with o upto more last
    ≡ (if ended then life_with o upto since ended
    else if ends then life_with o upto since true
    else life_with o upto (since ++ e ∷ []) ended)
life_more o upto since more true ends last e sames is =
    ap (λ (es : List Entry). life_with o upto es last) sames ∙ ap (life_with o upto since) is
life_more o upto since more false true last e sames is =
    ap (λ (es : List Entry). life_with o upto es last) sames ∙ ap (life_with o upto since) is
life_more o upto since more false false last e sames is =
    ap (λ (es : List Entry). life_with o upto es last) sames ∙ ap (life_with o upto (since ++ e ∷ [])) is

life_begun-push : (upto : List Entry) (o : Option Opening) (es : List Entry) (e : Entry)
    → life_begun upto o (es ++ e ∷ []) ≡ map (with_entry e) (life_begun upto o es)
life_begun-push upto None es e = refl
life_begun-push upto (Some o) es e =
    let test : Entry → Bool = is_turn o.sid in
    ap (λ (life : PastLife). life ∷ [])
    (life_more o upto (until test es) (until test (es ++ e ∷ [])) (list_any test es) (test e)
    (list_any test (es ++ e ∷ [])) e (until-push test es e) (any-push test es e))

-- each life goes on with the entry, and one may begin
lives_after-push : (before es : List Entry) (e : Entry)
    → lives_after before (es ++ e ∷ [])
    ≡ map (with_entry e) (lives_after before es)
    ++ life_begun (before ++ (es ++ e ∷ [])) (opening_by e.call e.reply) []
lives_after-push before [] e = append-nil (life_begun (before ++ e ∷ []) (opening_by e.call e.reply) [])
lives_after-push before (x ∷ es) e =
    let here : List PastLife = life_begun (before ++ x ∷ []) (opening_by x.call x.reply) es in
    let later : List PastLife = lives_after (before ++ x ∷ []) es in
    let last : List Entry → List PastLife = λ upto. life_begun upto (opening_by e.call e.reply) [] in
    ap (λ (ls : List PastLife). ls ++ lives_after (before ++ x ∷ []) (es ++ e ∷ []))
    (life_begun-push (before ++ x ∷ []) (opening_by x.call x.reply) es e)
    ∙ ap (λ (ls : List PastLife). map (with_entry e) here ++ ls)
    (lives_after-push (before ++ x ∷ []) es e
    ∙ ap (λ (upto : List Entry). map (with_entry e) later ++ last upto) (append_assoc before (x ∷ []) (es ++ e ∷ [])))
    ∙ sym (append_assoc (map (with_entry e) here) (map (with_entry e) later) (last (before ++ (x ∷ es ++ e ∷ []))))
    ∙ ap (λ (ls : List PastLife). ls ++ last (before ++ (x ∷ es ++ e ∷ [])))
    (sym (map-append (with_entry e) here later))

-- the lives of a history with one entry more
pub lives_of-push : (h : List Entry) (e : Entry)
    → lives_of (h ++ e ∷ [])
    ≡ map (with_entry e) (lives_of h) ++ life_begun (h ++ e ∷ []) (opening_by e.call e.reply) []
lives_of-push h e = lives_after-push [] h e

-- an entry more and what came before what is told go by themselves
passing-by : (p : ℕ) (e : Entry) (life : PastLife) (ended ends : Bool)
    → passing p (if ended then life else if ends then record life { ended = true }
    else record life { since = life.since ++ e ∷ [] })
    ≡ (if ended then passing p life else if ends then record (passing p life) { ended = true }
    else record (passing p life) { since = life.since ++ e ∷ [] })
passing-by p e life true ends = refl
passing-by p e life false true = refl
passing-by p e life false false = refl

passing-with : (p : ℕ) (e : Entry) (ls : List PastLife)
    → map (passing p) (map (with_entry e) ls) ≡ map (with_entry e) (map (passing p) ls)
passing-with p e [] = refl
passing-with p e (life ∷ ls) =
    ap (λ (l : PastLife). l ∷ map (passing p) (map (with_entry e) ls))
    (passing-by p e life life.ended (is_turn life.sid e))
    ∙ ap (λ (rest : List PastLife). with_entry e (passing p life) ∷ rest) (passing-with p e ls)

-- nothing came before in a life that begins
passing-begun : (p : ℕ) (upto : List Entry) (o : Option Opening) → p ≤ length upto
    → map (passing p) (life_begun upto o []) ≡ life_begun upto o []
passing-begun p upto None few = refl
passing-begun p upto (Some o) few =
    let none : p - length upto ≡ 0 = omega (arith, few) in
    ap (λ (n : ℕ). record { sid = o.sid; first = o.spec; upto = upto; since = []; ended = false; passed = n } ∷ []) none

-- the same where so many entries came before what is told
pub lives_in-push : (p : ℕ) (h : List Entry) (e : Entry) → p ≤ length h
    → lives_in p (h ++ e ∷ [])
    ≡ map (with_entry e) (lives_in p h) ++ life_begun (h ++ e ∷ []) (opening_by e.call e.reply) []
lives_in-push p h e few =
    ap (map (passing p)) (lives_of-push h e)
    ∙ map-append (passing p) (map (with_entry e) (lives_of h)) (life_begun (h ++ e ∷ []) (opening_by e.call e.reply) [])
    ∙ ap (λ (ls : List PastLife). ls ++ map (passing p) (life_begun (h ++ e ∷ []) (opening_by e.call e.reply) []))
    (passing-with p e (lives_of h))
    ∙ ap (λ (ls : List PastLife). map (with_entry e) (lives_in p h) ++ ls)
    (passing-begun p (h ++ e ∷ []) (opening_by e.call e.reply) (omega (arith, few, length_push h e)))
