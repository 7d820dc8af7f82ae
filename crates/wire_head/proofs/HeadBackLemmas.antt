-- Where a head that was written ends, and what is read of it.
use Rattle.std.proofs.Common.{◌≡◌, ℕ, suc, ◌+◌, Bool, true, false, cond, List, [], ◌∷◌, ◌++◌, length, take, Option, Some, None, codes, refl, sym, ap, ◌∙◌, arith, append_assoc, length-append, length-take}
use Rattle.std.specs.Prelude.{IsTrue}
use Rattle.std.specs.Option.{option_map}
use Rattle.std.proofs.Math.Seq.{take-append_seam}
use Rattle.std.proofs.lemmas.List.Elements.{All-head, All-tail}
use Rattle.std.proofs.lemmas.List.Sums.{AllPass-from_list_all}
use Rattle.wire_head.specs.declared.head_reader.ReadHead.{ReadHead}
use Rattle.wire_head.specs.Lines.{blank_len, or_later, head_len}
use Rattle.auth_text.specs.Text.{crlf}
use Rattle.wire_head.specs.RequestHeads.{field_line, connection_line, host_line}
use Rattle.wire_head.specs.ReadHeads.{is_fit, written, IsHeadOf}
use Rattle.wire_head.specs.HeadLines.{head_read}
use Rattle.wire_head.proofs.StatusLineLemmas.{plain, no_lf}
use Rattle.wire_head.proofs.HeadLengthLemmas.{head_within}
use Rattle.wire_head.proofs.ReadLemmas.{Plain, Fit, fit_of, first_text, host_text, first_is_plain, host_is_plain, field_is_plain, regroup, reads_again, read_is}

-- lines

twice : (x : Option ℕ) → or_later None (or_later None x) ≡ option_map (λ n. 0 + 2 + n) x
twice None = refl
twice (Some n) = ap (λ (k : ℕ). Some k) (omega arith)

one_more : (k : ℕ) (x : Option ℕ) → or_later None (option_map (λ n. k + 2 + n) x) ≡ option_map (λ n. suc k + 2 + n) x
one_more k None = refl
one_more k (Some n) = ap (λ (j : ℕ). Some j) (omega arith)

-- a line, and what comes behind it
behind_line : (line text : List ℕ) → Plain line → blank_len text ≡ None
    → head_len ((line ++ crlf) ++ text) ≡ option_map (λ n. length line + 2 + n) (head_len text)
behind_line [] text all fresh =
    ap (λ (o : Option ℕ). or_later None (or_later (option_map (λ n. 1 + n) o) (head_len text))) fresh ∙ twice (head_len text)
behind_line (c ∷ line) text all fresh =
    ap (λ (b : Bool). or_later (cond b (option_map (λ n. 1 + n) (blank_len ((line ++ crlf) ++ text))) None) (head_len ((line ++ crlf) ++ text)))
    (no_lf c (All-head (λ b. IsTrue (plain b)) c line all))
    ∙ ap (or_later None) (behind_line line text (All-tail (λ b. IsTrue (plain b)) c line all) fresh)
    ∙ one_more (length line) (head_len text)

-- the last line
last_line : (line rest : List ℕ) → Plain line → head_len ((line ++ crlf) ++ (crlf ++ rest)) ≡ Some (length line + 4)
last_line [] rest all = refl
last_line (c ∷ line) rest all =
    ap (λ (b : Bool). or_later (cond b (option_map (λ n. 1 + n) (blank_len ((line ++ crlf) ++ (crlf ++ rest)))) None) (head_len ((line ++ crlf) ++ (crlf ++ rest))))
    (no_lf c (All-head (λ b. IsTrue (plain b)) c line all))
    ∙ ap (or_later None) (last_line line rest (All-tail (λ b. IsTrue (plain b)) c line all))
    ∙ ap (λ (j : ℕ). Some j) (omega arith)

-- the end of a head: the first blank line is its last one, and it begins with none
record Tail (text : List ℕ) : Type 0 where
  ends : (rest : List ℕ) → head_len (text ++ rest) ≡ Some (length text)
  fresh : (rest : List ℕ) → blank_len (text ++ rest) ≡ None

line_ends : (line text : List ℕ) → Plain line → Tail text → (rest : List ℕ)
    → head_len (((line ++ crlf) ++ text) ++ rest) ≡ Some (length ((line ++ crlf) ++ text))
line_ends line text all tail rest =
    let size : length line + 2 + length text ≡ length ((line ++ crlf) ++ text) =
    omega (arith, length-append (line ++ crlf) text, length-append line crlf) in
    ap head_len (append_assoc (line ++ crlf) text rest)
    ∙ behind_line line (text ++ rest) all (tail.fresh rest)
    ∙ ap (option_map (λ n. length line + 2 + n)) (tail.ends rest)
    ∙ ap (λ (k : ℕ). Some k) size

last_ends : (line rest : List ℕ) → Plain line → head_len (((line ++ crlf) ++ crlf) ++ rest) ≡ Some (length ((line ++ crlf) ++ crlf))
last_ends line rest all =
    let size : length line + 4 ≡ length ((line ++ crlf) ++ crlf) = omega (arith, length-append (line ++ crlf) crlf, length-append line crlf) in
    ap head_len (append_assoc (line ++ crlf) crlf rest) ∙ last_line line rest all ∙ ap (λ (k : ℕ). Some k) size

connection_ends : (keep : Bool) → Tail (connection_line keep ++ crlf)
connection_ends true = record {
  ends = λ rest. last_ends (codes "Connection: keep-alive") rest (AllPass-from_list_all plain (codes "Connection: keep-alive") refl);
  fresh = λ rest. refl;
}
connection_ends false = record {
  ends = λ rest. last_ends (codes "Connection: close") rest (AllPass-from_list_all plain (codes "Connection: close") refl);
  fresh = λ rest. refl;
}

server_ends : (p : ReadHead) (value : Option (List ℕ)) → p.server ≡ value → Fit p → (text : List ℕ) → Tail text
    → Tail (field_line (codes "Authorization") value ++ text)
server_ends p None same is text tail = tail
server_ends p (Some value) same is text tail = record {
  ends = line_ends (codes "Authorization" ++ codes ": " ++ value) text
      (field_is_plain (codes "Authorization") value (AllPass-from_list_all plain (codes "Authorization: ") refl) (rw same at is.server)) tail;
  fresh = λ rest. refl;
}

proxy_ends : (p : ReadHead) (value : Option (List ℕ)) → p.proxy ≡ value → Fit p → (text : List ℕ) → Tail text
    → Tail (field_line (codes "Proxy-Authorization") value ++ text)
proxy_ends p None same is text tail = tail
proxy_ends p (Some value) same is text tail = record {
  ends = line_ends (codes "Proxy-Authorization" ++ codes ": " ++ value) text
      (field_is_plain (codes "Proxy-Authorization") value (AllPass-from_list_all plain (codes "Proxy-Authorization: ") refl) (rw same at is.proxy)) tail;
  fresh = λ rest. refl;
}

host_ends : (p : ReadHead) → Fit p → (text : List ℕ) → Tail text → Tail (host_line p.origin ++ text)
host_ends p is text tail = record { ends = line_ends (host_text p) text (host_is_plain p is) tail; fresh = λ rest. refl }

pub head_ends : (p : ReadHead) (rest : List ℕ) → is_fit p ≡ true → head_len (written p ++ rest) ≡ Some (length (written p))
head_ends p rest fit =
    let is = fit_of p fit in
    let proxy = field_line (codes "Proxy-Authorization") p.proxy in
    let server = field_line (codes "Authorization") p.server in
    let text = host_line p.origin ++ (proxy ++ (server ++ (connection_line p.keep ++ crlf))) in
    let whole : written p ≡ (first_text p ++ crlf) ++ text =
    regroup (first_text p ++ crlf) (host_line p.origin) proxy server (connection_line p.keep) crlf in
    let tail : Tail text =
    host_ends p is (proxy ++ (server ++ (connection_line p.keep ++ crlf)))
    (proxy_ends p p.proxy refl is (server ++ (connection_line p.keep ++ crlf))
    (server_ends p p.server refl is (connection_line p.keep ++ crlf) (connection_ends p.keep))) in
    ap (λ (t : List ℕ). head_len (t ++ rest)) whole
    ∙ line_ends (first_text p) text (first_is_plain p is) tail rest
    ∙ ap (λ (t : List ℕ). Some (length t)) (sym whole)

-- reading

pub is_found : (bytes : List ℕ) (n : ℕ) (h : ReadHead) → head_len bytes ≡ Some n → head_read (take n bytes) ≡ Some h → IsHeadOf bytes h
is_found bytes n h ends read =
    let is = read_is (take n bytes) h read in
    let within = (head_within bytes n ends).1 in
    let same : n ≡ h.length = omega (arith, is.length_is, length-take n bytes, within) in
    (is.fit, ends ∙ ap (λ (k : ℕ). Some k) same, ap (λ (k : ℕ). take k bytes) (sym same) ∙ sym is.text_is)

lengths_same : (n k : ℕ) → ◌≡◌ {A = Option ℕ} (Some n) (Some k) → n ≡ k
lengths_same n k same = cc

pub is_not_found : (bytes : List ℕ) (n : ℕ) → head_len bytes ≡ Some n → head_read (take n bytes) ≡ None → (h : ReadHead) → ¬ (IsHeadOf bytes h)
is_not_found bytes n ends none h is =
    let same = lengths_same n h.length (sym ends ∙ is.1) in
    let some : ◌≡◌ {A = Option ReadHead} None (Some (record h { length = length (written h) })) =
    sym none ∙ ap (λ (k : ℕ). head_read (take k bytes)) same ∙ ap head_read is.2 ∙ reads_again h is.0 in cc some

-- a head of fit parts is their head, whatever follows it
pub head_back : (h : ReadHead) (rest : List ℕ) → is_fit h ≡ true → IsHeadOf (written h ++ rest) (record h { length = length (written h) })
head_back h rest fit = (fit, head_ends h rest fit, take-append_seam (written h) rest)

heads_same : (g h : ReadHead) → ◌≡◌ {A = Option ReadHead} (Some g) (Some h) → g ≡ h
heads_same g h same = cc

-- bytes are the head of one list of parts at most
pub one_head : (bytes : List ℕ) (g h : ReadHead) → IsHeadOf bytes g → IsHeadOf bytes h → g ≡ h
one_head bytes g h left right =
    let lengths = lengths_same g.length h.length (sym left.1 ∙ right.1) in
    let texts : written g ≡ written h = sym left.2 ∙ ap (λ (k : ℕ). take k bytes) lengths ∙ right.2 in
    let parts = heads_same (record g { length = length (written g) }) (record h { length = length (written h) })
    (sym (reads_again g left.0) ∙ ap head_read texts ∙ reads_again h right.0) in
    ap (λ (p : ReadHead). record p { length = g.length }) parts ∙ ap (λ (k : ℕ). record h { length = k }) lengths
