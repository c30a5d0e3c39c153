mod FunctionParts
