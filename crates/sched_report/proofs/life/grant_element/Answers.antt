-- A data grant, or none.
use Rattle.std.proofs.Common.{◌≡◌, List, [], ◌++◌, map, Option, Some, sym, ap, ◌∙◌, subst, arith}
use Rattle.std.specs.List.{cons_option}
use Rattle.std.proofs.lemmas.List.{append-nil}
use Rattle.std.proofs.lemmas.List.Sums.{sum_by_push}
use Rattle.flow_book.specs.declared.flow.Grant.{Grant}
use Rattle.flow_book.specs.Flows.{bytes_of}
use Rattle.sched_history.specs.Life.{grant_by}
use Rattle.sched_report.specs.Delays.{Claim}
use Rattle.sched_report.specs.Served.{IsServiceOf, with_grants}
use Rattle.sched_report.proofs.Reaching.{same_claims}
use Rattle.sched_report.proofs.life.grant_element.Goals as goal

pub grant-requires : goal.grant-requires
grant-requires c =
    let k = c.requires.granted in
    let g = c.in-Some.grant in
    let is : grant_by c.args.sid c.args.start (c.args.element, c.args.bytes) ≡ Some g =
    sym c.grant_of.ensures.value ∙ c.in-Some.is in
    record {
      claims = k.claims;
      bytes = k.bytes;
      grants = k.grants;
      is = k.is;
      lawful = k.lawful;
      few = k.few;
      fits = k.fits;
      within = omega (
        arith,
        k.within,
        ap (λ (o : Option Grant). bytes_of (k.grants ++ cons_option o [])) is,
        sum_by_push (λ (g : Grant). g.bytes) k.grants g,
      );
      reach = c.in-Some.ensures.reach;
    }

pub returns-in-Some : goal.returns-in-Some
returns-in-Some c = λ claims asked grants is.
    subst (λ o. IsServiceOf c.args.config.now c.grant.new.self (map (with_grants (cons_option o [])) claims) asked
    (grants ++ cons_option o []))
    (sym (sym c.grant_of.ensures.value ∙ c.in-Some.is)) (c.grant.ensures claims asked grants is)

pub returns-in-None : goal.returns-in-None
returns-in-None c = λ claims asked grants is.
    subst (λ o. IsServiceOf c.args.config.now c.args.service.now (map (with_grants (cons_option o [])) claims) asked
    (grants ++ cons_option o []))
    (sym (sym c.grant_of.ensures.value ∙ c.in-None.is))
    (subst (IsServiceOf c.args.config.now c.args.service.now (map (with_grants []) claims) asked)
    (sym (append-nil grants))
    (subst (λ (ms : List Claim). IsServiceOf c.args.config.now c.args.service.now ms asked grants)
    (sym (same_claims claims)) is))
