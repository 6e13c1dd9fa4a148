-- Programs lowered, and run as flat code next to what they mean. Each part computes.
use Rattle.std.proofs.Common.{◌≡◌, ℕ, Bool, true, false, List, [], ◌∷◌, map, Option, Some, None, refl}
use Rattle.execution.specs.Run.{Goes, Stops}
use Rattle.execution.specs.Traffic.{Element, Entry, Traffic}
use Rattle.execution.specs.Naming.{entry_named, traffic_named}
use Rattle.regions.specs.declared.rights.Class.{Class}
use Rattle.regions.specs.declared.rights.Class.TheVariants.{Open, Verified, Private, Logged, Constant}
use Rattle.aegis_num.specs.declared.operators.BinaryOp.TheVariants.{Add, Sub, Mul, DivS, RemS, And, Or, Xor, ShrS, ShrU, Eq, LtS, LtU, LeS, GtS, GtU}
use Rattle.aegis_num.specs.declared.operators.UnaryOp.TheVariants.{Neg, Inv, Not}
use Rattle.c_semantics.specs.declared.tree.Variable.{Variable}
use Rattle.c_semantics.specs.ResolvedTree.{Number, Scalar, Indexed, Called, Input, Unary, Binary, Both, Either, NoArguments, Argument, Nothing, Then, Empty, Block, Local, Assign, Store, Call, Suspend, Release, Check, Return, Break, Continue, If, While, For, Program}
use Rattle.c_semantics.specs.States as source
use Rattle.c_semantics.specs.Meaning.{Meaning, mean, noting_all}
use Rattle.regions.specs.LooseClasses.{nothing_loose, shared_loose, shared_and_logged_loose}
use Rattle.ir_code.specs.declared.ops.Op.TheVariants as op
use Rattle.ir_code.specs.FlatStates.{FlatEnd, Ended, Index, Divide, Starved, Step}
use Rattle.ir_code.specs.FlatMeaning.{flat_run}
use Rattle.lowering.specs.Cells.{source_element, cell_element}
use Rattle.lowering.specs.Lowering.{lowered}

abbrev variable : ℕ → Option Class → Variable
variable token class = record { token = token; class = class }

abbrev entry : ℕ → ℕ → ℕ → Entry Element
entry variable index word = record { place = record { variable = variable; index = index }; word = word }

-- the end of a run, and what has come and gone, as the source names it
abbrev seen : Program → Step → Option FlatEnd × Traffic Element
seen p (Goes f) = (None, traffic_named (source_element p) f.traffic)
seen p (Stops end f) = (Some end, traffic_named (source_element p) f.traffic)

abbrev end_of : source.End → Option FlatEnd
end_of source.Ended = Some Ended
end_of (source.Index at) = Some (Index at)
end_of (source.Divide at) = Some (Divide at)
end_of source.Starved = Some Starved
end_of source.Turns = None

abbrev meant : Meaning → Option FlatEnd × Traffic Element
meant m = (end_of m.end, m.traffic)

-- With these classes loose the program as flat code comes to what it means, within so many steps and turns.
abbrev agree : (Class → Bool) → Program → List ℕ → List (Entry Element) → ℕ → ℕ → Type 0
agree is_loose p input loose steps turns =
    seen p (flat_run is_loose (lowered p) input (map (entry_named (cell_element p)) loose) steps) ≡ meant (mean (noting_all is_loose) p input loose turns)

-- int main(void){release(72);release(105);return 0;}
abbrev hi : Program
hi = record {
  objects = [];
  functions = record { private = false; parameters = []; body = Then (Release (Number 72)) (Then (Release (Number 105)) (Then (Return (Some (Number 0))) Nothing)) } ∷ [];
  main = 0;
}

hi-ops : (lowered hi).ops ≡ op.Label 0 ∷ op.SaveLink 0 ∷ op.Const 1 72 ∷ op.Release 1 ∷ op.Const 1 105 ∷ op.Release 1 ∷ op.Const 1 0 ∷ op.Jump 1
    ∷ op.Label 2 ∷ op.Const 1 0 ∷ op.Label 1 ∷ op.SetResult 1 ∷ op.Return 0 ∷ op.Call 0 ∷ op.Exit ∷ []
hi-ops = refl

hi-entry : (lowered hi).entry ≡ 13
hi-entry = refl

hi-runs : agree nothing_loose hi [] [] 20 0
hi-runs = refl

-- __shared int s[1]; __untrusted void gap(void); int main(void){gap();release(s[0]);return 0;}
abbrev shared : Program
shared = record {
  objects = record { variable = variable 2 (Some Open); length = Some 1; first = [] } ∷ [];
  functions = record { private = false; parameters = []; body = Then Suspend (Then (Release (Indexed 30 (variable 2 (Some Open)) 1 (Number 0))) Nothing) } ∷ [];
  main = 0;
}

shared-runs : agree shared_loose shared [] (entry 2 0 0x41 ∷ []) 30 0
shared-runs = refl

shared-starved : agree shared_loose shared [] [] 30 0
shared-starved = refl

shared-other : agree shared_and_logged_loose shared [] (entry 2 1 0x41 ∷ []) 30 0
shared-other = refl

shared-alone : agree nothing_loose shared [] [] 30 0
shared-alone = refl

-- __private unsigned key[4];
-- __logged unsigned seen[64];
-- __shared unsigned box[2];
-- const unsigned price[4] = { 5, 7, 11, 13 };
-- unsigned total;
-- __untrusted void fetch(void);
-- __private void load_keys(void) {
--   unsigned i;
--   for (i = 0; i < 4; i = i + 1) key[i] = input();
-- }
-- __private unsigned tag(unsigned item, unsigned count) {
--   return (key[item & 3] * count + item) & 255;
-- }
-- int order(unsigned item, unsigned count, unsigned number) {
--   if (item > 3 || count == 0) return 1;
--   if (seen[number & 63]) return 2;
--   seen[number & 63] = count;
--   total = total + price[item] * count;
--   return 0;
-- }
-- void put(unsigned v) { release(v >> 8); release(v); }
-- int main(void) {
--   unsigned n; int r;
--   load_keys();
--   for (n = 0; n < 2; n = n + 1) {
--     fetch();
--     r = order(box[0], box[1], n);
--     release(r);
--     if (r == 0) release(tag(box[0], box[1]));
--   }
--   check();
--   put(total);
--   return 0;
-- }
abbrev order : Program
order = record {
  objects = record { variable = (variable 2 (Some Private)); length = (Some 4); first = [] } ∷ record { variable = (variable 9 (Some Logged)); length = (Some 64); first = [] } ∷ record { variable = (variable 16 (Some Open)); length = (Some 2); first = [] } ∷ record { variable = (variable 23 (Some Constant)); length = (Some 4); first = 5 ∷ 7 ∷ 11 ∷ 13 ∷ [] } ∷ record { variable = (variable 39 (Some Verified)); length = None; first = [] } ∷ [];
  functions = record {
    private = true;
    parameters = [];
    body = (Then (Local (variable 56 None) None) (Then (For (Assign (variable 56 None) (Number 0)) (Some (Binary 65 LtU (Scalar (variable 56 None)) (Number 4))) (Assign (variable 56 None) (Binary 71 Add (Scalar (variable 56 None)) (Number 1))) (Store 75 (variable 2 (Some Private)) 4 (Scalar (variable 56 None)) Input)) Nothing));
  } ∷ record {
    private = true;
    parameters = (variable 89 None) ∷ (variable 92 None) ∷ [];
    body = (Then (Return (Some (Binary 108 And (Binary 105 Add (Binary 103 Mul (Indexed 98 (variable 2 (Some Private)) 4 (Binary 100 And (Scalar (variable 89 None)) (Number 3))) (Scalar (variable 92 None))) (Scalar (variable 89 None))) (Number 255)))) Nothing);
  } ∷ record {
    private = false;
    parameters = (variable 116 None) ∷ (variable 119 None) ∷ (variable 122 None) ∷ [];
    body = (Then (If (Either (Binary 128 GtU (Scalar (variable 116 None)) (Number 3)) (Binary 132 Eq (Scalar (variable 119 None)) (Number 0))) (Return (Some (Number 1))) Nothing) (Then (If (Indexed 141 (variable 9 (Some Logged)) 64 (Binary 143 And (Scalar (variable 122 None)) (Number 63))) (Return (Some (Number 2))) Nothing) (Then (Store 151 (variable 9 (Some Logged)) 64 (Binary 153 And (Scalar (variable 122 None)) (Number 63)) (Scalar (variable 119 None))) (Then (Assign (variable 39 (Some Verified)) (Binary 162 Add (Scalar (variable 39 (Some Verified))) (Binary 167 Mul (Indexed 164 (variable 23 (Some Constant)) 4 (Scalar (variable 116 None))) (Scalar (variable 119 None))))) (Then (Return (Some (Number 0))) Nothing)))));
  } ∷ record {
    private = false;
    parameters = (variable 178 None) ∷ [];
    body = (Then (Release (Binary 184 ShrU (Scalar (variable 178 None)) (Number 8))) (Then (Release (Scalar (variable 178 None))) Nothing));
  } ∷ record {
    private = false;
    parameters = [];
    body = (Then (Local (variable 201 None) None) (Then (Local (variable 204 None) None) (Then (Call 0 NoArguments) (Then (For (Assign (variable 201 None) (Number 0)) (Some (Binary 217 LtU (Scalar (variable 201 None)) (Number 2))) (Assign (variable 201 None) (Binary 223 Add (Scalar (variable 201 None)) (Number 1))) (Block (Then Suspend (Then (Assign (variable 204 None) (Called 2 (Argument (Indexed 236 (variable 16 (Some Open)) 2 (Number 0)) (Argument (Indexed 241 (variable 16 (Some Open)) 2 (Number 1)) (Argument (Scalar (variable 201 None)) NoArguments))))) (Then (Release (Scalar (variable 204 None))) (Then (If (Binary 256 Eq (Scalar (variable 204 None)) (Number 0)) (Release (Called 1 (Argument (Indexed 264 (variable 16 (Some Open)) 2 (Number 0)) (Argument (Indexed 269 (variable 16 (Some Open)) 2 (Number 1)) NoArguments)))) Nothing) Nothing)))))) (Then Check (Then (Call 3 (Argument (Scalar (variable 39 (Some Verified))) NoArguments)) (Then (Return (Some (Number 0))) Nothing)))))));
  } ∷ [];
  main = 4;
}

order-1 : agree nothing_loose order (3 ∷ 5 ∷ 7 ∷ 11 ∷ []) [] 1500 12
order-1 = refl

order-2 : agree shared_loose order (3 ∷ 5 ∷ 7 ∷ 11 ∷ []) (entry 16 0 2 ∷ entry 16 1 3 ∷ entry 16 0 0 ∷ entry 16 1 2 ∷ entry 16 0 3 ∷ entry 16 1 4294967297 ∷ entry 16 0 4294967296 ∷ entry 16 1 4294967297 ∷ []) 1500 12
order-2 = refl

order-3 : agree shared_and_logged_loose order (3 ∷ 5 ∷ 7 ∷ 11 ∷ []) (entry 16 0 2 ∷ entry 16 1 3 ∷ entry 9 0 0 ∷ entry 16 0 2 ∷ entry 16 1 3 ∷ entry 16 0 4294967297 ∷ entry 16 1 4294967296 ∷ []) 1500 12
order-3 = refl

order-4 : agree shared_and_logged_loose order (3 ∷ 5 ∷ 7 ∷ 11 ∷ []) (entry 16 0 2 ∷ entry 16 1 3 ∷ entry 9 0 0 ∷ entry 16 0 2 ∷ []) 1500 12
order-4 = refl

-- const int table[3]={5,-1,7};
-- const unsigned mask=3;
-- __private int secret[2];
-- __logged int log[3];
-- __shared int out[2];
-- __untrusted void gap(void);
-- __private int mix(int a){secret[a&1]=secret[a&1]+a;return secret[a&1];}
-- int add(int a,unsigned b){log[1]=log[1]+a;if(b>>1)return log[1]-1;else;}
-- void note(int n){for(;n;){n=n-1;check();if(n==1)continue;gap();}return;}
-- int main(void){
--  int i;unsigned t=table[1];
--  for(int j=0;j<2;j=j+1){
--   i=0;
--   while(1){i=i+1;if(i==2)continue;if(i>3)break;out[j]=i*10+j;log[j+1]=log[j]+out[j];}
--   release(mix(i));
--  }
--  note(3);
--  add(1,2);
--  release(add(i,t)+log[2]);
--  release(out[1]&&input()||!t);
--  release(~input()%7|out[0]);
--  check();gap();;
--  {int k=-table[2];release(k>>1^mask);}
--  return i/2<=add(0,0);
-- }
abbrev every_form : Program
every_form = record {
  objects = record { variable = (variable 2 (Some Constant)); length = (Some 3); first = 5 ∷ 4294967295 ∷ 7 ∷ [] } ∷ record { variable = (variable 18 (Some Constant)); length = None; first = 3 ∷ [] } ∷ record { variable = (variable 24 (Some Private)); length = (Some 2); first = [] } ∷ record { variable = (variable 31 (Some Logged)); length = (Some 3); first = [] } ∷ record { variable = (variable 38 (Some Open)); length = (Some 2); first = [] } ∷ [];
  functions = record {
    private = true;
    parameters = (variable 55 None) ∷ [];
    body = (Then (Store 59 (variable 24 (Some Private)) 2 (Binary 61 And (Scalar (variable 55 None)) (Number 1)) (Binary 71 Add (Indexed 66 (variable 24 (Some Private)) 2 (Binary 68 And (Scalar (variable 55 None)) (Number 1))) (Scalar (variable 55 None)))) (Then (Return (Some (Indexed 76 (variable 24 (Some Private)) 2 (Binary 78 And (Scalar (variable 55 None)) (Number 1))))) Nothing));
  } ∷ record {
    private = false;
    parameters = (variable 87 None) ∷ (variable 90 None) ∷ [];
    body = (Then (Store 94 (variable 31 (Some Logged)) 3 (Number 1) (Binary 102 Add (Indexed 99 (variable 31 (Some Logged)) 3 (Number 1)) (Scalar (variable 87 None)))) (Then (If (Binary 108 ShrU (Scalar (variable 90 None)) (Number 1)) (Return (Some (Binary 116 Sub (Indexed 113 (variable 31 (Some Logged)) 3 (Number 1)) (Number 1)))) Empty) Nothing));
  } ∷ record {
    private = false;
    parameters = (variable 126 None) ∷ [];
    body = (Then (For Nothing (Some (Scalar (variable 126 None))) Nothing (Block (Then (Assign (variable 126 None) (Binary 139 Sub (Scalar (variable 126 None)) (Number 1))) (Then Check (Then (If (Binary 149 Eq (Scalar (variable 126 None)) (Number 1)) Continue Nothing) (Then Suspend Nothing)))))) (Then (Return None) Nothing));
  } ∷ record {
    private = false;
    parameters = [];
    body = (Then (Local (variable 169 None) None) (Then (Local (variable 172 None) (Some (Indexed 175 (variable 2 (Some Constant)) 3 (Number 1)))) (Then (For (Local (variable 182 None) (Some (Number 0))) (Some (Binary 187 LtS (Scalar (variable 182 None)) (Number 2))) (Assign (variable 182 None) (Binary 193 Add (Scalar (variable 182 None)) (Number 1))) (Block (Then (Assign (variable 169 None) (Number 0)) (Then (While (Number 1) (Block (Then (Assign (variable 169 None) (Binary 209 Add (Scalar (variable 169 None)) (Number 1))) (Then (If (Binary 215 Eq (Scalar (variable 169 None)) (Number 2)) Continue Nothing) (Then (If (Binary 223 GtS (Scalar (variable 169 None)) (Number 3)) Break Nothing) (Then (Store 229 (variable 38 (Some Open)) 2 (Scalar (variable 182 None)) (Binary 236 Add (Binary 234 Mul (Scalar (variable 169 None)) (Number 10)) (Scalar (variable 182 None)))) (Then (Store 240 (variable 31 (Some Logged)) 3 (Binary 242 Add (Scalar (variable 182 None)) (Number 1)) (Binary 250 Add (Indexed 247 (variable 31 (Some Logged)) 3 (Scalar (variable 182 None))) (Indexed 252 (variable 38 (Some Open)) 2 (Scalar (variable 182 None))))) Nothing))))))) (Then (Release (Called 0 (Argument (Scalar (variable 169 None)) NoArguments))) Nothing))))) (Then (Call 2 (Argument (Number 3) NoArguments)) (Then (Call 1 (Argument (Number 1) (Argument (Number 2) NoArguments))) (Then (Release (Binary 286 Add (Called 1 (Argument (Scalar (variable 169 None)) (Argument (Scalar (variable 172 None)) NoArguments))) (Indexed 288 (variable 31 (Some Logged)) 3 (Number 2)))) (Then (Release (Either (Both (Indexed 296 (variable 38 (Some Open)) 2 (Number 1)) Input) (Unary Not (Scalar (variable 172 None))))) (Then (Release (Binary 316 Or (Binary 314 RemS (Unary Inv Input) (Number 7)) (Indexed 318 (variable 38 (Some Open)) 2 (Number 0)))) (Then Check (Then Suspend (Then Empty (Then (Block (Then (Local (variable 334 None) (Some (Unary Neg (Indexed 338 (variable 2 (Some Constant)) 3 (Number 2))))) (Then (Release (Binary 347 Xor (Binary 345 ShrS (Scalar (variable 334 None)) (Number 1)) (Scalar (variable 18 (Some Constant))))) Nothing))) (Then (Return (Some (Binary 356 LeS (Binary 354 DivS (Scalar (variable 169 None)) (Number 2)) (Called 1 (Argument (Number 0) (Argument (Number 0) NoArguments)))))) Nothing)))))))))))));
  } ∷ [];
  main = 3;
}

every_form-1 : agree nothing_loose every_form (7 ∷ []) [] 4000 40
every_form-1 = refl

every_form-2 : agree shared_loose every_form (7 ∷ []) (entry 38 0 10 ∷ entry 38 0 31 ∷ entry 38 1 13 ∷ entry 38 1 31 ∷ entry 38 1 32 ∷ entry 38 0 32 ∷ []) 4000 40
every_form-2 = refl

every_form-3 : agree shared_and_logged_loose every_form (7 ∷ []) (entry 31 0 0 ∷ entry 38 0 11 ∷ entry 31 0 2 ∷ entry 38 0 30 ∷ entry 31 1 33 ∷ entry 38 1 13 ∷ entry 31 1 32 ∷ entry 38 1 32 ∷ entry 31 1 34 ∷ entry 31 1 35 ∷ entry 31 1 36 ∷ entry 31 1 42 ∷ entry 31 2 64 ∷ entry 38 1 32 ∷ entry 38 0 32 ∷ entry 31 1 40 ∷ []) 4000 40
every_form-3 = refl
