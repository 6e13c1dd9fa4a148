-- Runs of programs with each part of what they mean, which compute. An evaluator of another language gave the programs and the
-- values: tests/meaning_by_python.
use Rattle.std.proofs.Common.{◌≡◌, ℕ, true, false, [], ◌∷◌, Option, Some, None, refl}
use Rattle.regions.specs.declared.rights.Class.{Class}
use Rattle.regions.specs.declared.rights.Class.TheVariants.{Open, Verified, Private, Logged, Constant}
use Rattle.aegis_num.specs.declared.operators.BinaryOp.TheVariants.{Add, Sub, Mul, DivS, RemS, RemU, And, Or, Xor, Shl, ShrS, ShrU, Eq, LtS, LtU, LeS, GtS, GtU}
use Rattle.aegis_num.specs.declared.operators.UnaryOp.TheVariants.{Neg, Inv, Not}
use Rattle.execution.specs.Traffic.{Element, Entry}
use Rattle.c_semantics.specs.declared.tree.Variable.{Variable}
use Rattle.c_semantics.specs.ResolvedTree.{Number, Scalar, Indexed, Called, Input, Unary, Binary, Both, Either, NoArguments, Argument, Nothing, Then, Empty, Block, Local, Assign, Store, Call, Suspend, Release, Check, Return, Break, Continue, If, While, For, Program}
use Rattle.c_semantics.specs.States.{Ended, Index, Divide, Starved, Turns}
use Rattle.c_semantics.specs.Meaning.{mean_alone, mean_shared, mean_unchecked}

abbrev variable : ℕ → Option Class → Variable
variable token class = record { token = token; class = class }

abbrev entry : ℕ → ℕ → ℕ → Entry Element
entry variable index word = record { place = record { variable = variable; index = index }; word = word }

-- const int table[3]={5,-1,7};
-- const unsigned mask=3;
-- __private int secret[2];
-- __logged int log[3];
-- __shared int out[2];
-- __untrusted void gap(void);
-- __private int mix(int a){secret[a&1]=secret[a&1]+a;return secret[a&1];}
-- int add(int a,unsigned b){log[1]=log[1]+a;if(b>>1)return log[1]-1;else;}
-- void note(int n){for(;n;){n=n-1;check();if(n==1)continue;gap();}return;}
-- int main(void){
--  int i;unsigned t=table[1];
--  for(int j=0;j<2;j=j+1){
--   i=0;
--   while(1){i=i+1;if(i==2)continue;if(i>3)break;out[j]=i*10+j;log[j+1]=log[j]+out[j];}
--   release(mix(i));
--  }
--  note(3);
--  add(1,2);
--  release(add(i,t)+log[2]);
--  release(out[1]&&input()||!t);
--  release(~input()%7|out[0]);
--  check();gap();;
--  {int k=-table[2];release(k>>1^mask);}
--  return i/2<=add(0,0);
-- }
abbrev every_form : Program
every_form = record {
  objects = record { variable = (variable 2 (Some Constant)); length = (Some 3); first = 5 ∷ 4294967295 ∷ 7 ∷ [] } ∷ record { variable = (variable 18 (Some Constant)); length = None; first = 3 ∷ [] } ∷ record { variable = (variable 24 (Some Private)); length = (Some 2); first = [] } ∷ record { variable = (variable 31 (Some Logged)); length = (Some 3); first = [] } ∷ record { variable = (variable 38 (Some Open)); length = (Some 2); first = [] } ∷ [];
  functions = record {
    private = true;
    parameters = (variable 55 None) ∷ [];
    body = (Then (Store 59 (variable 24 (Some Private)) 2 (Binary 61 And (Scalar (variable 55 None)) (Number 1)) (Binary 71 Add (Indexed 66 (variable 24 (Some Private)) 2 (Binary 68 And (Scalar (variable 55 None)) (Number 1))) (Scalar (variable 55 None)))) (Then (Return (Some (Indexed 76 (variable 24 (Some Private)) 2 (Binary 78 And (Scalar (variable 55 None)) (Number 1))))) Nothing));
  } ∷ record {
    private = false;
    parameters = (variable 87 None) ∷ (variable 90 None) ∷ [];
    body = (Then (Store 94 (variable 31 (Some Logged)) 3 (Number 1) (Binary 102 Add (Indexed 99 (variable 31 (Some Logged)) 3 (Number 1)) (Scalar (variable 87 None)))) (Then (If (Binary 108 ShrU (Scalar (variable 90 None)) (Number 1)) (Return (Some (Binary 116 Sub (Indexed 113 (variable 31 (Some Logged)) 3 (Number 1)) (Number 1)))) Empty) Nothing));
  } ∷ record {
    private = false;
    parameters = (variable 126 None) ∷ [];
    body = (Then (For Nothing (Some (Scalar (variable 126 None))) Nothing (Block (Then (Assign (variable 126 None) (Binary 139 Sub (Scalar (variable 126 None)) (Number 1))) (Then Check (Then (If (Binary 149 Eq (Scalar (variable 126 None)) (Number 1)) Continue Nothing) (Then Suspend Nothing)))))) (Then (Return None) Nothing));
  } ∷ record {
    private = false;
    parameters = [];
    body = (Then (Local (variable 169 None) None) (Then (Local (variable 172 None) (Some (Indexed 175 (variable 2 (Some Constant)) 3 (Number 1)))) (Then (For (Local (variable 182 None) (Some (Number 0))) (Some (Binary 187 LtS (Scalar (variable 182 None)) (Number 2))) (Assign (variable 182 None) (Binary 193 Add (Scalar (variable 182 None)) (Number 1))) (Block (Then (Assign (variable 169 None) (Number 0)) (Then (While (Number 1) (Block (Then (Assign (variable 169 None) (Binary 209 Add (Scalar (variable 169 None)) (Number 1))) (Then (If (Binary 215 Eq (Scalar (variable 169 None)) (Number 2)) Continue Nothing) (Then (If (Binary 223 GtS (Scalar (variable 169 None)) (Number 3)) Break Nothing) (Then (Store 229 (variable 38 (Some Open)) 2 (Scalar (variable 182 None)) (Binary 236 Add (Binary 234 Mul (Scalar (variable 169 None)) (Number 10)) (Scalar (variable 182 None)))) (Then (Store 240 (variable 31 (Some Logged)) 3 (Binary 242 Add (Scalar (variable 182 None)) (Number 1)) (Binary 250 Add (Indexed 247 (variable 31 (Some Logged)) 3 (Scalar (variable 182 None))) (Indexed 252 (variable 38 (Some Open)) 2 (Scalar (variable 182 None))))) Nothing))))))) (Then (Release (Called 0 (Argument (Scalar (variable 169 None)) NoArguments))) Nothing))))) (Then (Call 2 (Argument (Number 3) NoArguments)) (Then (Call 1 (Argument (Number 1) (Argument (Number 2) NoArguments))) (Then (Release (Binary 286 Add (Called 1 (Argument (Scalar (variable 169 None)) (Argument (Scalar (variable 172 None)) NoArguments))) (Indexed 288 (variable 31 (Some Logged)) 3 (Number 2)))) (Then (Release (Either (Both (Indexed 296 (variable 38 (Some Open)) 2 (Number 1)) Input) (Unary Not (Scalar (variable 172 None))))) (Then (Release (Binary 316 Or (Binary 314 RemS (Unary Inv Input) (Number 7)) (Indexed 318 (variable 38 (Some Open)) 2 (Number 0)))) (Then Check (Then Suspend (Then Empty (Then (Block (Then (Local (variable 334 None) (Some (Unary Neg (Indexed 338 (variable 2 (Some Constant)) 3 (Number 2))))) (Then (Release (Binary 347 Xor (Binary 345 ShrS (Scalar (variable 334 None)) (Number 1)) (Scalar (variable 18 (Some Constant))))) Nothing))) (Then (Return (Some (Binary 356 LeS (Binary 354 DivS (Scalar (variable 169 None)) (Number 2)) (Called 1 (Argument (Number 0) (Argument (Number 0) NoArguments)))))) Nothing)))))))))))));
  } ∷ [];
  main = 3;
}

every_form-1 : mean_alone every_form (7 ∷ []) 40 ≡ record { end = Ended; work = 388; traffic = record { input = []; loose = []; bytes = 4 ∷ 8 ∷ 95 ∷ 1 ∷ 30 ∷ 255 ∷ []; writes = entry 38 0 10 ∷ entry 38 0 30 ∷ entry 38 1 11 ∷ entry 38 1 31 ∷ []; taken = 0; releases = 6; checks = 4; suspensions = 3 } }
every_form-1 = refl

every_form-2 : mean_shared every_form (7 ∷ []) (entry 38 0 10 ∷ entry 38 0 31 ∷ entry 38 1 13 ∷ entry 38 1 31 ∷ entry 38 1 32 ∷ entry 38 0 32 ∷ []) 40 ≡ record { end = Ended; work = 388; traffic = record { input = []; loose = []; bytes = 4 ∷ 8 ∷ 97 ∷ 1 ∷ 32 ∷ 255 ∷ []; writes = entry 38 0 10 ∷ entry 38 0 30 ∷ entry 38 1 11 ∷ entry 38 1 31 ∷ []; taken = 6; releases = 6; checks = 4; suspensions = 3 } }
every_form-2 = refl

every_form-3 : mean_unchecked every_form (7 ∷ []) (entry 31 0 0 ∷ entry 38 0 11 ∷ entry 31 0 2 ∷ entry 38 0 30 ∷ entry 31 1 33 ∷ entry 38 1 13 ∷ entry 31 1 32 ∷ entry 38 1 32 ∷ entry 31 1 34 ∷ entry 31 1 35 ∷ entry 31 1 36 ∷ entry 31 1 42 ∷ entry 31 2 64 ∷ entry 38 1 32 ∷ entry 38 0 32 ∷ entry 31 1 40 ∷ []) 40 ≡ record { end = Ended; work = 388; traffic = record { input = []; loose = []; bytes = 4 ∷ 8 ∷ 105 ∷ 1 ∷ 32 ∷ 255 ∷ []; writes = entry 38 0 10 ∷ entry 38 0 30 ∷ entry 38 1 11 ∷ entry 38 1 31 ∷ []; taken = 16; releases = 6; checks = 4; suspensions = 3 } }
every_form-3 = refl

every_form-4 : mean_alone every_form ([]) 12 ≡ record { end = Turns; work = 284; traffic = record { input = []; loose = []; bytes = 4 ∷ 8 ∷ []; writes = entry 38 0 10 ∷ entry 38 0 30 ∷ entry 38 1 11 ∷ entry 38 1 31 ∷ []; taken = 0; releases = 2; checks = 2; suspensions = 1 } }
every_form-4 = refl

every_form-5 : mean_unchecked every_form (0 ∷ 9 ∷ []) (entry 31 0 0 ∷ entry 38 0 11 ∷ entry 31 0 2 ∷ entry 38 0 30 ∷ entry 31 1 33 ∷ entry 38 1 13 ∷ entry 31 1 32 ∷ entry 38 1 32 ∷ entry 31 1 34 ∷ entry 31 1 35 ∷ entry 31 1 36 ∷ entry 31 1 42 ∷ entry 31 2 64 ∷ entry 38 1 32 ∷ entry 38 0 32 ∷ entry 31 1 40 ∷ []) 9 ≡ record { end = Turns; work = 212; traffic = record { input = 0 ∷ 9 ∷ []; loose = entry 31 1 34 ∷ entry 31 1 35 ∷ entry 31 1 36 ∷ entry 31 1 42 ∷ entry 31 2 64 ∷ entry 38 1 32 ∷ entry 38 0 32 ∷ entry 31 1 40 ∷ []; bytes = 4 ∷ []; writes = entry 38 0 10 ∷ entry 38 0 30 ∷ entry 38 1 11 ∷ entry 38 1 31 ∷ []; taken = 8; releases = 1; checks = 0; suspensions = 0 } }
every_form-5 = refl

-- __private unsigned key[4];
-- __logged unsigned seen[64];
-- __shared unsigned box[2];
-- const unsigned price[4] = { 5, 7, 11, 13 };
-- unsigned total;
-- __untrusted void fetch(void);
-- __private void load_keys(void) {
--   unsigned i;
--   for (i = 0; i < 4; i = i + 1) key[i] = input();
-- }
-- __private unsigned tag(unsigned item, unsigned count) {
--   return (key[item & 3] * count + item) & 255;
-- }
-- int order(unsigned item, unsigned count, unsigned number) {
--   if (item > 3 || count == 0) return 1;
--   if (seen[number & 63]) return 2;
--   seen[number & 63] = count;
--   total = total + price[item] * count;
--   return 0;
-- }
-- void put(unsigned v) { release(v >> 8); release(v); }
-- int main(void) {
--   unsigned n; int r;
--   load_keys();
--   for (n = 0; n < 2; n = n + 1) {
--     fetch();
--     r = order(box[0], box[1], n);
--     release(r);
--     if (r == 0) release(tag(box[0], box[1]));
--   }
--   check();
--   put(total);
--   return 0;
-- }
abbrev order : Program
order = record {
  objects = record { variable = (variable 2 (Some Private)); length = (Some 4); first = [] } ∷ record { variable = (variable 9 (Some Logged)); length = (Some 64); first = [] } ∷ record { variable = (variable 16 (Some Open)); length = (Some 2); first = [] } ∷ record { variable = (variable 23 (Some Constant)); length = (Some 4); first = 5 ∷ 7 ∷ 11 ∷ 13 ∷ [] } ∷ record { variable = (variable 39 (Some Verified)); length = None; first = [] } ∷ [];
  functions = record {
    private = true;
    parameters = [];
    body = (Then (Local (variable 56 None) None) (Then (For (Assign (variable 56 None) (Number 0)) (Some (Binary 65 LtU (Scalar (variable 56 None)) (Number 4))) (Assign (variable 56 None) (Binary 71 Add (Scalar (variable 56 None)) (Number 1))) (Store 75 (variable 2 (Some Private)) 4 (Scalar (variable 56 None)) Input)) Nothing));
  } ∷ record {
    private = true;
    parameters = (variable 89 None) ∷ (variable 92 None) ∷ [];
    body = (Then (Return (Some (Binary 108 And (Binary 105 Add (Binary 103 Mul (Indexed 98 (variable 2 (Some Private)) 4 (Binary 100 And (Scalar (variable 89 None)) (Number 3))) (Scalar (variable 92 None))) (Scalar (variable 89 None))) (Number 255)))) Nothing);
  } ∷ record {
    private = false;
    parameters = (variable 116 None) ∷ (variable 119 None) ∷ (variable 122 None) ∷ [];
    body = (Then (If (Either (Binary 128 GtU (Scalar (variable 116 None)) (Number 3)) (Binary 132 Eq (Scalar (variable 119 None)) (Number 0))) (Return (Some (Number 1))) Nothing) (Then (If (Indexed 141 (variable 9 (Some Logged)) 64 (Binary 143 And (Scalar (variable 122 None)) (Number 63))) (Return (Some (Number 2))) Nothing) (Then (Store 151 (variable 9 (Some Logged)) 64 (Binary 153 And (Scalar (variable 122 None)) (Number 63)) (Scalar (variable 119 None))) (Then (Assign (variable 39 (Some Verified)) (Binary 162 Add (Scalar (variable 39 (Some Verified))) (Binary 167 Mul (Indexed 164 (variable 23 (Some Constant)) 4 (Scalar (variable 116 None))) (Scalar (variable 119 None))))) (Then (Return (Some (Number 0))) Nothing)))));
  } ∷ record {
    private = false;
    parameters = (variable 178 None) ∷ [];
    body = (Then (Release (Binary 184 ShrU (Scalar (variable 178 None)) (Number 8))) (Then (Release (Scalar (variable 178 None))) Nothing));
  } ∷ record {
    private = false;
    parameters = [];
    body = (Then (Local (variable 201 None) None) (Then (Local (variable 204 None) None) (Then (Call 0 NoArguments) (Then (For (Assign (variable 201 None) (Number 0)) (Some (Binary 217 LtU (Scalar (variable 201 None)) (Number 2))) (Assign (variable 201 None) (Binary 223 Add (Scalar (variable 201 None)) (Number 1))) (Block (Then Suspend (Then (Assign (variable 204 None) (Called 2 (Argument (Indexed 236 (variable 16 (Some Open)) 2 (Number 0)) (Argument (Indexed 241 (variable 16 (Some Open)) 2 (Number 1)) (Argument (Scalar (variable 201 None)) NoArguments))))) (Then (Release (Scalar (variable 204 None))) (Then (If (Binary 256 Eq (Scalar (variable 204 None)) (Number 0)) (Release (Called 1 (Argument (Indexed 264 (variable 16 (Some Open)) 2 (Number 0)) (Argument (Indexed 269 (variable 16 (Some Open)) 2 (Number 1)) NoArguments)))) Nothing) Nothing)))))) (Then Check (Then (Call 3 (Argument (Scalar (variable 39 (Some Verified))) NoArguments)) (Then (Return (Some (Number 0))) Nothing)))))));
  } ∷ [];
  main = 4;
}

order-1 : mean_alone order (3 ∷ 5 ∷ 7 ∷ 11 ∷ []) 12 ≡ record { end = Ended; work = 142; traffic = record { input = []; loose = []; bytes = 1 ∷ 1 ∷ 0 ∷ 0 ∷ []; writes = []; taken = 0; releases = 4; checks = 1; suspensions = 2 } }
order-1 = refl

order-2 : mean_shared order (3 ∷ 5 ∷ 7 ∷ 11 ∷ []) (entry 16 0 2 ∷ entry 16 1 3 ∷ entry 16 0 0 ∷ entry 16 1 2 ∷ entry 16 0 3 ∷ entry 16 1 4294967297 ∷ entry 16 0 4294967296 ∷ entry 16 1 4294967297 ∷ []) 12 ≡ record { end = Ended; work = 212; traffic = record { input = []; loose = []; bytes = 0 ∷ 6 ∷ 0 ∷ 3 ∷ 0 ∷ 46 ∷ []; writes = []; taken = 8; releases = 6; checks = 1; suspensions = 2 } }
order-2 = refl

order-3 : mean_unchecked order (3 ∷ 5 ∷ 7 ∷ 11 ∷ []) (entry 16 0 2 ∷ entry 16 1 3 ∷ entry 9 0 0 ∷ entry 16 0 2 ∷ entry 16 1 3 ∷ entry 16 0 4294967297 ∷ entry 16 1 4294967296 ∷ []) 12 ≡ record { end = Ended; work = 177; traffic = record { input = []; loose = []; bytes = 0 ∷ 23 ∷ 1 ∷ 0 ∷ 33 ∷ []; writes = []; taken = 7; releases = 5; checks = 1; suspensions = 2 } }
order-3 = refl

order-4 : mean_unchecked order (3 ∷ 5 ∷ 7 ∷ 11 ∷ []) (entry 16 0 2 ∷ entry 16 1 3 ∷ entry 9 0 0 ∷ entry 16 0 2 ∷ []) 12 ≡ record { end = Starved; work = 112; traffic = record { input = []; loose = []; bytes = 0 ∷ []; writes = []; taken = 4; releases = 1; checks = 0; suspensions = 1 } }
order-4 = refl

-- __shared int a[3];int main(void){release(1);release(a[2]);release(a[input()]);return 0;}
abbrev by_index : Program
by_index = record {
  objects = record { variable = (variable 2 (Some Open)); length = (Some 3); first = [] } ∷ [];
  functions = record {
    private = false;
    parameters = [];
    body = (Then (Release (Number 1)) (Then (Release (Indexed 21 (variable 2 (Some Open)) 3 (Number 2))) (Then (Release (Indexed 29 (variable 2 (Some Open)) 3 Input)) (Then (Return (Some (Number 0))) Nothing))));
  } ∷ [];
  main = 0;
}

by_index-1 : mean_shared by_index (1 ∷ []) (entry 2 2 70 ∷ entry 2 1 71 ∷ []) 0 ≡ record { end = Ended; work = 11; traffic = record { input = []; loose = []; bytes = 1 ∷ 70 ∷ 71 ∷ []; writes = []; taken = 2; releases = 3; checks = 0; suspensions = 0 } }
by_index-1 = refl

by_index-2 : mean_shared by_index (1 ∷ []) (entry 2 2 70 ∷ entry 2 0 71 ∷ []) 0 ≡ record { end = Starved; work = 9; traffic = record { input = []; loose = entry 2 0 71 ∷ []; bytes = 1 ∷ 70 ∷ []; writes = []; taken = 1; releases = 2; checks = 0; suspensions = 0 } }
by_index-2 = refl

by_index-3 : mean_shared by_index (3 ∷ []) (entry 2 2 70 ∷ entry 2 1 71 ∷ []) 0 ≡ record { end = Index 29; work = 9; traffic = record { input = []; loose = entry 2 1 71 ∷ []; bytes = 1 ∷ 70 ∷ []; writes = []; taken = 1; releases = 2; checks = 0; suspensions = 0 } }
by_index-3 = refl

by_index-4 : mean_alone by_index (1 ∷ []) 0 ≡ record { end = Ended; work = 11; traffic = record { input = []; loose = []; bytes = 1 ∷ 0 ∷ 0 ∷ []; writes = []; taken = 0; releases = 3; checks = 0; suspensions = 0 } }
by_index-4 = refl

-- __shared int s;__logged int l;int main(void){l=4;release(l);s=l+1;release(s);release(l);return 0;}
abbrev by_variable : Program
by_variable = record {
  objects = record { variable = (variable 2 (Some Open)); length = None; first = [] } ∷ record { variable = (variable 6 (Some Logged)); length = None; first = [] } ∷ [];
  functions = record {
    private = false;
    parameters = [];
    body = (Then (Assign (variable 6 (Some Logged)) (Number 4)) (Then (Release (Scalar (variable 6 (Some Logged)))) (Then (Assign (variable 2 (Some Open)) (Binary 26 Add (Scalar (variable 6 (Some Logged))) (Number 1))) (Then (Release (Scalar (variable 2 (Some Open)))) (Then (Release (Scalar (variable 6 (Some Logged)))) (Then (Return (Some (Number 0))) Nothing))))));
  } ∷ [];
  main = 0;
}

by_variable-1 : mean_shared by_variable ([]) (entry 2 0 9 ∷ []) 0 ≡ record { end = Ended; work = 15; traffic = record { input = []; loose = []; bytes = 4 ∷ 9 ∷ 4 ∷ []; writes = entry 2 0 5 ∷ []; taken = 1; releases = 3; checks = 0; suspensions = 0 } }
by_variable-1 = refl

by_variable-2 : mean_unchecked by_variable ([]) (entry 6 0 300 ∷ entry 6 0 2 ∷ entry 2 0 5 ∷ entry 6 0 6 ∷ entry 2 0 1 ∷ []) 0 ≡ record { end = Ended; work = 15; traffic = record { input = []; loose = entry 2 0 1 ∷ []; bytes = 44 ∷ 5 ∷ 6 ∷ []; writes = entry 2 0 3 ∷ []; taken = 4; releases = 3; checks = 0; suspensions = 0 } }
by_variable-2 = refl

by_variable-3 : mean_unchecked by_variable ([]) (entry 6 0 300 ∷ entry 2 0 5 ∷ []) 0 ≡ record { end = Starved; work = 8; traffic = record { input = []; loose = entry 2 0 5 ∷ []; bytes = 44 ∷ []; writes = []; taken = 1; releases = 1; checks = 0; suspensions = 0 } }
by_variable-3 = refl

by_variable-4 : mean_shared by_variable ([]) ([]) 0 ≡ record { end = Starved; work = 11; traffic = record { input = []; loose = []; bytes = 4 ∷ []; writes = entry 2 0 5 ∷ []; taken = 0; releases = 1; checks = 0; suspensions = 0 } }
by_variable-4 = refl

-- __shared int s;int main(void){int i;for(;;i=i+1){while(i&1){s=i;break;}release(s);check();}return 0;}
abbrev endless : Program
endless = record {
  objects = record { variable = (variable 2 (Some Open)); length = None; first = [] } ∷ [];
  functions = record {
    private = false;
    parameters = [];
    body = (Then (Local (variable 11 None) None) (Then (For Nothing None (Assign (variable 11 None) (Binary 20 Add (Scalar (variable 11 None)) (Number 1))) (Block (Then (While (Binary 27 And (Scalar (variable 11 None)) (Number 1)) (Block (Then (Assign (variable 2 (Some Open)) (Scalar (variable 11 None))) (Then Break Nothing)))) (Then (Release (Scalar (variable 2 (Some Open)))) (Then Check Nothing))))) (Then (Return (Some (Number 0))) Nothing)));
  } ∷ [];
  main = 0;
}

endless-1 : mean_shared endless ([]) (entry 2 0 5 ∷ entry 2 0 6 ∷ entry 2 0 7 ∷ []) 5 ≡ record { end = Turns; work = 53; traffic = record { input = []; loose = []; bytes = 5 ∷ 6 ∷ 7 ∷ []; writes = entry 2 0 1 ∷ []; taken = 3; releases = 3; checks = 3; suspensions = 0 } }
endless-1 = refl

endless-2 : mean_alone endless ([]) 4 ≡ record { end = Turns; work = 47; traffic = record { input = []; loose = []; bytes = 0 ∷ 1 ∷ 1 ∷ []; writes = entry 2 0 1 ∷ []; taken = 0; releases = 3; checks = 3; suspensions = 0 } }
endless-2 = refl

endless-3 : mean_shared endless ([]) (entry 2 0 5 ∷ []) 0 ≡ record { end = Turns; work = 3; traffic = record { input = []; loose = entry 2 0 5 ∷ []; bytes = []; writes = []; taken = 0; releases = 0; checks = 0; suspensions = 0 } }
endless-3 = refl

-- __logged int l[2];int main(void){l[1]=4;release(8/l[1]);release(9%(l[1]-l[0]));return 0;}
abbrev divides : Program
divides = record {
  objects = record { variable = (variable 2 (Some Logged)); length = (Some 2); first = [] } ∷ [];
  functions = record {
    private = false;
    parameters = [];
    body = (Then (Store 14 (variable 2 (Some Logged)) 2 (Number 1) (Number 4)) (Then (Release (Binary 23 DivS (Number 8) (Indexed 25 (variable 2 (Some Logged)) 2 (Number 1)))) (Then (Release (Binary 33 RemS (Number 9) (Binary 39 Sub (Indexed 36 (variable 2 (Some Logged)) 2 (Number 1)) (Indexed 41 (variable 2 (Some Logged)) 2 (Number 0))))) (Then (Return (Some (Number 0))) Nothing))));
  } ∷ [];
  main = 0;
}

divides-1 : mean_unchecked divides ([]) (entry 2 1 0 ∷ []) 0 ≡ record { end = Divide 23; work = 9; traffic = record { input = []; loose = []; bytes = []; writes = []; taken = 1; releases = 0; checks = 0; suspensions = 0 } }
divides-1 = refl

divides-2 : mean_unchecked divides ([]) (entry 2 1 8 ∷ entry 2 1 3 ∷ entry 2 0 3 ∷ []) 0 ≡ record { end = Divide 33; work = 17; traffic = record { input = []; loose = []; bytes = 1 ∷ []; writes = []; taken = 3; releases = 1; checks = 0; suspensions = 0 } }
divides-2 = refl

divides-3 : mean_shared divides ([]) ([]) 0 ≡ record { end = Ended; work = 19; traffic = record { input = []; loose = []; bytes = 2 ∷ 1 ∷ []; writes = []; taken = 0; releases = 2; checks = 0; suspensions = 0 } }
divides-3 = refl

-- int main(void){int a;a=0-2147483647-1;a=a/(0-1);
-- release(a>>24);release(a>>16);release(a>>8);release(a);return 0;}
abbrev least : Program
least = record {
  objects = [];
  functions = record {
    private = false;
    parameters = [];
    body = (Then (Local (variable 7 None) None) (Then (Assign (variable 7 None) (Binary 14 Sub (Binary 12 Sub (Number 0) (Number 2147483647)) (Number 1))) (Then (Assign (variable 7 None) (Binary 20 DivS (Scalar (variable 7 None)) (Binary 23 Sub (Number 0) (Number 1)))) (Then (Release (Binary 30 ShrS (Scalar (variable 7 None)) (Number 24))) (Then (Release (Binary 37 ShrS (Scalar (variable 7 None)) (Number 16))) (Then (Release (Binary 44 ShrS (Scalar (variable 7 None)) (Number 8))) (Then (Release (Scalar (variable 7 None))) (Then (Return (Some (Number 0))) Nothing))))))));
  } ∷ [];
  main = 0;
}

least-1 : mean_alone least ([]) 0 ≡ record { end = Ended; work = 30; traffic = record { input = []; loose = []; bytes = 128 ∷ 0 ∷ 0 ∷ 0 ∷ []; writes = []; taken = 0; releases = 4; checks = 0; suspensions = 0 } }
least-1 = refl

-- int main(void){int a;unsigned b;a=-1;b=1;release(a<b);release(a<1);release(-7/2);release(-7%4u);release(1<<33);return 0;}
abbrev mixed : Program
mixed = record {
  objects = [];
  functions = record {
    private = false;
    parameters = [];
    body = (Then (Local (variable 7 None) None) (Then (Local (variable 10 None) None) (Then (Assign (variable 7 None) (Unary Neg (Number 1))) (Then (Assign (variable 10 None) (Number 1)) (Then (Release (Binary 24 LtU (Scalar (variable 7 None)) (Scalar (variable 10 None)))) (Then (Release (Binary 31 LtS (Scalar (variable 7 None)) (Number 1))) (Then (Release (Binary 39 DivS (Unary Neg (Number 7)) (Number 2))) (Then (Release (Binary 47 RemU (Unary Neg (Number 7)) (Number 4))) (Then (Release (Binary 54 Shl (Number 1) (Number 33))) (Then (Return (Some (Number 0))) Nothing))))))))));
  } ∷ [];
  main = 0;
}

mixed-1 : mean_alone mixed ([]) 0 ≡ record { end = Ended; work = 32; traffic = record { input = []; loose = []; bytes = 0 ∷ 1 ∷ 253 ∷ 1 ∷ 2 ∷ []; writes = []; taken = 0; releases = 5; checks = 0; suspensions = 0 } }
mixed-1 = refl

-- int main(void){int i;for(i=0;i<9;i=i+1){int k;if(i==1)continue;if(i==3)break;k=k+i;release(k);}release(7);}
abbrev stepped : Program
stepped = record {
  objects = [];
  functions = record {
    private = false;
    parameters = [];
    body = (Then (Local (variable 7 None) None) (Then (For (Assign (variable 7 None) (Number 0)) (Some (Binary 16 LtS (Scalar (variable 7 None)) (Number 9))) (Assign (variable 7 None) (Binary 22 Add (Scalar (variable 7 None)) (Number 1))) (Block (Then (Local (variable 27 None) None) (Then (If (Binary 32 Eq (Scalar (variable 7 None)) (Number 1)) Continue Nothing) (Then (If (Binary 40 Eq (Scalar (variable 7 None)) (Number 3)) Break Nothing) (Then (Assign (variable 27 None) (Binary 48 Add (Scalar (variable 27 None)) (Scalar (variable 7 None)))) (Then (Release (Scalar (variable 27 None))) Nothing))))))) (Then (Release (Number 7)) Nothing)));
  } ∷ [];
  main = 0;
}

stepped-1 : mean_alone stepped ([]) 4 ≡ record { end = Ended; work = 85; traffic = record { input = []; loose = []; bytes = 0 ∷ 2 ∷ 7 ∷ []; writes = []; taken = 0; releases = 3; checks = 0; suspensions = 0 } }
stepped-1 = refl

stepped-2 : mean_alone stepped ([]) 3 ≡ record { end = Turns; work = 71; traffic = record { input = []; loose = []; bytes = 0 ∷ 2 ∷ []; writes = []; taken = 0; releases = 2; checks = 0; suspensions = 0 } }
stepped-2 = refl

-- int f(int x,int y){release(x);y=1;}int main(void){release(f(input(),input())||1&&0/0);}
abbrev arguments : Program
arguments = record {
  objects = [];
  functions = record {
    private = false;
    parameters = (variable 4 None) ∷ (variable 7 None) ∷ [];
    body = (Then (Release (Scalar (variable 4 None))) (Then (Assign (variable 7 None) (Number 1)) Nothing));
  } ∷ record {
    private = false;
    parameters = [];
    body = (Then (Release (Either (Called 0 (Argument Input (Argument Input NoArguments))) (Both (Number 1) (Binary 42 DivS (Number 0) (Number 0))))) Nothing);
  } ∷ [];
  main = 1;
}

arguments-1 : mean_alone arguments (8 ∷ 9 ∷ []) 0 ≡ record { end = Divide 42; work = 16; traffic = record { input = []; loose = []; bytes = 8 ∷ []; writes = []; taken = 0; releases = 1; checks = 0; suspensions = 0 } }
arguments-1 = refl
