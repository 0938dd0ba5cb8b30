-- Document 01's small delivery S and its 14 cases with their answers, as one table.
-- Assumes nothing.
use Rattle.std.specs.Prelude.{ℕ, ◌+◌, List, [], ◌∷◌, ◌++◌, pos, get_or, replicate}
use Prim.Native.Char.{code}
use Prim.Native.String.{String, [] as no_text, ◌∷◌ as then}
use Rattle.laws.specs.Row.{row}
use Rattle.field.specs.Texts.{padded}
use Rattle.record.specs.declared.kind.Kind.{Kind}
use Rattle.record.specs.declared.kind.Kind.TheVariants.{Catalogo, ObPun, ObTex, ObLin, Tramo, Vertice, Nodo, ObComp}
use Rattle.record.specs.Breaks.{Finding}
use Rattle.std.specs.Prelude.{Ok, Err}
use Rattle.record.specs.Table.{fields_of, length_of, width_at}
use Rattle.record.specs.Files.{Files, files_of}
use Rattle.record.specs.Breaks.{number_of}
use Rattle.record.specs.Says.{number, coordinate}
use Rattle.codec.specs.declared.values.Values.{Values}
use Rattle.codec.specs.Calls.{Answer}
use Rattle.std.specs.Prelude.{Ok, Err}
use Rattle.codec.specs.Values.{no_value, value_of}
use Rattle.codec.specs.Writes.{joined}
use Rattle.codec.specs.Calls.{answer_in}
use Rattle.judge.specs.Verdict.{verdict_of}

-- THE BYTES of a text
unfoldable pub ascii : String → List ℕ
ascii no_text = []
ascii (then c s) = code c ∷ ascii s

-- a record of the kind from its fields' texts, in order: each is filled up with blanks, and those left out at the end are blank;
-- bars and line end after them
abbrev pub record_of_texts : Kind → List String → List ℕ
record_of_texts k texts = joined (row (λ i. padded (width_at k (i + 1)) (ascii (get_or texts i ""))) (fields_of k))

-- RECORDS of S: the codes; linear object 1, by its name; tramo 1 of it, by code and end node, from node 1, the line blank; a vertex of
-- line 1, by order and X, and a node, by id, X's sign, X and Y
abbrev pub codes : List ℕ
codes = record_of_texts Catalogo ("0100000" ∷ "L" ∷ []) ++ record_of_texts Catalogo ("0100001" ∷ "T" ∷ [])

abbrev pub object_record : String → List ℕ
object_record name = record_of_texts ObLin ("0000000001" ∷ "" ∷ "0100000" ∷ name ∷ [])

abbrev pub tramo_record : String → String → List ℕ
tramo_record coded end = record_of_texts Tramo ("0000000001" ∷ "0000000001" ∷ "" ∷ "" ∷ coded ∷ "0000000001" ∷ end ∷ [])

abbrev pub vertex_record : String → String → List ℕ
vertex_record order x = record_of_texts Vertice ("0000000001" ∷ order ∷ "+" ∷ x ∷ "+" ∷ "0000000200" ∷ [])

abbrev pub node_record : String → String → String → String → List ℕ
node_record id sign x y = record_of_texts Nodo (id ∷ "" ∷ sign ∷ x ∷ "+" ∷ y ∷ [])

abbrev pub node1 : List ℕ
node1 = node_record "0000000001" "+" "000000100" "0000000200"

abbrev pub node2 : List ℕ
node2 = node_record "0000000002" "+" "000000140" "0000000200"

-- THE SMALL DELIVERY
abbrev pub objects : List ℕ
objects = object_record ""

abbrev pub tramos : List ℕ
tramos = tramo_record "0100001" "0000000002"

abbrev pub vertices : List ℕ
vertices = vertex_record "00001" "000000100" ++ vertex_record "00002" "000000140"

-- S with other files 4 to 7, and no composites
abbrev pub delivery : List ℕ → List ℕ → List ℕ → List ℕ → Files
delivery lines tramos vertices nodes = files_of (codes ∷ [] ∷ [] ∷ lines ∷ tramos ∷ vertices ∷ nodes ∷ [])

abbrev pub S : Files
S = delivery objects tramos vertices (node1 ++ node2)

-- the values of node 1 at X
abbrev pub node_at : ℕ → Values
node_at x = record { at = value_of (number 1) ∷ no_value ∷ no_value ∷ value_of (coordinate (pos x)) ∷ no_value ∷ value_of (coordinate (pos 200)) ∷ replicate 8 no_value }

-- A CASE: a delivery to be judged; a node to be written; bytes, or lengths, to be compared
pub data Case : Type 0 where
  judging : Files → Case
  writing : Values → Case
  bytes : List ℕ → Case

-- its answer: the eight counts; reason, file, record and field; done; reason and field; the bytes, or lengths
pub data Outcome : Type 0 where
  OK : List ℕ → Outcome
  NO : ℕ → ℕ → ℕ → ℕ → Outcome
  done : Outcome
  refused : ℕ → ℕ → Outcome
  these : List ℕ → Outcome

abbrev pub of_finding : Finding → List ℕ → Outcome
of_finding (Ok u) counts = OK counts
of_finding (Err b) counts = NO (number_of b.reason) b.file b.«record» b.field

abbrev pub of_answer : Answer → Outcome
of_answer (Ok u) = done
of_answer (Err r) = refused (number_of r.reason) r.field

abbrev pub outcome : Case → Outcome
outcome (judging files) = of_finding (verdict_of files).finding (verdict_of files).counts
outcome (writing v) = of_answer (answer_in Nodo v (length_of Nodo))
outcome (bytes s) = these s

-- THE TABLE: each case with its answer, under the document's number
abbrev pub table : List (Case × Outcome)
table =
    -- the record lengths, by file
    (bytes (length_of Catalogo ∷ length_of ObPun ∷ length_of ObTex ∷ length_of ObLin ∷ length_of Tramo ∷ length_of Vertice ∷ length_of Nodo ∷ length_of ObComp ∷ []), these (133 ∷ 149 ∷ 144 ∷ 128 ∷ 77 ∷ 54 ∷ 50 ∷ 117 ∷ []))
    -- node 1's record
    ∷ (bytes node1, these (ascii "0000000001| |+|000000100|+|0000000200| |        \r\n"))
    -- 1: empty files
    ∷ (judging (files_of []), OK (0 ∷ 0 ∷ 0 ∷ 0 ∷ 0 ∷ 0 ∷ 0 ∷ 0 ∷ []))
    -- 2: S
    ∷ (judging S, OK (2 ∷ 0 ∷ 0 ∷ 1 ∷ 1 ∷ 2 ∷ 2 ∷ 0 ∷ []))
    -- 3: node 2 at X 141
    ∷ (judging (delivery objects tramos vertices (node1 ++ node_record "0000000002" "+" "000000141" "0000000200")), NO 53 5 1 7)
    -- 4: orders 1 and 3
    ∷ (judging (delivery objects tramos (vertex_record "00001" "000000100" ++ vertex_record "00003" "000000140") (node1 ++ node2)), NO 51 6 1 2)
    -- 5: NODO of one whole record and one byte
    ∷ (judging (delivery objects tramos vertices (node1 ++ ascii "0")), NO 11 7 2 0)
    -- 6: node 1 with X - and zeros
    ∷ (judging (delivery objects tramos vertices (node_record "0000000001" "-" "000000000" "0000000200" ++ node2)), NO 25 7 1 3)
    -- 7: node 1 with an X of seven blanks and 11
    ∷ (judging (delivery objects tramos vertices (node_record "0000000001" "+" "       11" "0000000200" ++ node2)), NO 22 7 1 4)
    -- 8: node 2's id changed to 1
    ∷ (judging (delivery objects tramos vertices (node1 ++ node_record "0000000001" "+" "000000140" "0000000200")), NO 30 7 2 1)
    -- 9: tramo ends at node 3
    ∷ (judging (delivery objects (tramo_record "0100001" "0000000003") vertices (node1 ++ node2)), NO 40 5 1 7)
    -- 10: tramo with code 0100000
    ∷ (judging (delivery objects (tramo_record "0100000" "0000000002") vertices (node1 ++ node2)), NO 41 5 1 5)
    -- 11: third node, id 3, at node 1's place
    ∷ (judging (delivery objects tramos vertices (node1 ++ node2 ++ node_record "0000000003" "+" "000000100" "0000000200")), NO 54 7 3 0)
    -- 12: third node at (0, 0)
    ∷ (judging (delivery objects tramos vertices (node1 ++ node2 ++ node_record "0000000003" "+" "000000000" "0000000000")), NO 56 7 3 0)
    -- 13: a bar in the object's name
    ∷ (judging (delivery (object_record "CALLE|MAYOR") tramos vertices (node1 ++ node2)), OK (2 ∷ 0 ∷ 0 ∷ 1 ∷ 1 ∷ 2 ∷ 2 ∷ 0 ∷ []))
    -- 14: writing a node
    ∷ (writing (node_at 999999999), done)
    ∷ (writing (node_at 1000000000), refused 62 4)
    ∷ []
