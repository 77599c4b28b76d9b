-- A text that is written to a stream in several calls.
use Rattle.std.proofs.Common.{◌≡◌, ℕ, ◌-◌, List, [], ◌++◌, Option, length, take, drop, sym, ap, ◌∙◌, append_assoc, take-append-drop}
use Rattle.std.proofs.lemmas.List.{take_rest}
use Rattle.std.specs.Io.KnownBytes.{Appends, Keeps}
use Rattle.std.proofs.KnownBytes.{Appends-kept, Appends-nil, Appends-trans}
use Rattle.ndtables.specs.Streams.{AppendsFront, AppendsUpTo}

pub none-written : (a : Option (List ℕ)) (text rest : List ℕ) → rest ≡ text → AppendsUpTo a a text rest
none-written a text rest e = record { front = []; split = sym e; appended = Appends-nil a }

module _ (a b c : Option (List ℕ)) (text rest : List ℕ) (h : AppendsUpTo a b text rest) where
  -- a call that appended nothing
  pub no-more : Keeps b c → AppendsUpTo a c text rest
  no-more kept = record { front = h.front; split = h.split; appended = Appends-kept a b c h.front h.appended kept }

  -- a call that appended the next n bytes
  pub some-more : (n : ℕ) → Appends b c (take n rest) → AppendsUpTo a c text (take (length rest - n) (drop n rest))
  some-more n more = record {
    front = h.front ++ take n rest;
    split = h.split ∙ (ap (λ l. h.front ++ l) (sym (take-append-drop n rest)) ∙ (sym (append_assoc h.front (take n rest) (drop n rest)) ∙ ap (λ l. (h.front ++ take n rest) ++ l) (sym (take_rest rest n))));
    appended = Appends-trans a b c h.front (take n rest) h.appended more;
  }

-- a front of a text is one of the text and more
pub front-more : (a b : Option (List ℕ)) (text more : List ℕ) → AppendsFront a b text → AppendsFront a b (text ++ more)
front-more a b text more (rest, h) = (rest ++ more, record { front = h.front; split = ap (λ t. t ++ more) h.split ∙ append_assoc h.front rest more; appended = h.appended })

-- a text that was appended whole, and then a front of another
pub then-front : (a b c : Option (List ℕ)) (text more : List ℕ) → Appends a b text → AppendsFront b c more → AppendsFront a c (text ++ more)
then-front a b c text more whole (rest, h) = (
  rest,
  record {
    front = text ++ h.front;
    split = ap (λ t. text ++ t) h.split ∙ sym (append_assoc text h.front rest);
    appended = Appends-trans a b c text h.front whole h.appended;
  },
)
