use Rattle.std.proofs.Common.{◌≡◌, List, ap, ◌∙◌, sym, ◌++◌, ◌∷◌, []}
use Rattle.std.specs.List.{list_any}
use Rattle.mm_token.specs.declared.token.Token.{Token}
use Rattle.mm_token.specs.Tokens.{State, is_class_name, awaits_class}
use Rattle.mm_token.proofs.Tokens.{awaits_last, names_last}
use Rattle.mm_token.proofs.unit.Unit.add.Goals as goal

pub returns : goal.returns
returns c =
    let old = c.args.self.now in
    let e : c.push.new.self ≡ old.list ++ c.args.token ∷ [] = c.in_ok-push.ensures.ok in
    let state : List Token → State = λ ts. record { files = old.files; tokens = ts; bytes = old.bytes } in
    record {
      state = ap state e;
      agrees = record {
        included = c.requires.included;
        classes = λ word. c.in_ok-note_class.ensures word ∙ (names_last word old.list c.args.token _ (c.requires.classes word) ∙ sym (ap (list_any (is_class_name word)) e));
        awaiting = c.announces_class-self.ensures ∙ (sym (awaits_last old.list c.args.token) ∙ sym (ap awaits_class e));
      };
    }
