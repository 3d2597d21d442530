-- The text of the tokens, which is read as the state.
use Rattle.std.proofs.Common.{◌≡◌, ◌∙◌, sym, subst}
use Rattle.serde_json.proofs.Texts.{print-outline}
use Rattle.state_text.specs.StateText.{state_data, state_text, IsStateText}
use Rattle.state_text.proofs.StateRead.{state_text_is}
use Rattle.state_text.proofs.state.state_text.Goals as goal

pub returns : goal.returns
unfolding state_text
returns c =
    let s = c.args.state.now in
    let put = c.in_ok-put_state.ensures in
    let is : c.into_inner.result.items ≡ state_text s =
    c.into_inner.ensures.items
    ∙ rw (put.before, put.ok, c.new-out.ensures.before, c.new-out.ensures.tokens, c.new.ensures.items)
    (print-outline (state_data s)) in
    record {
      ok = is;
      read = subst (λ text. IsStateText text s) (sym is) (state_text_is s put.fits);
      fits = put.fits;
    }
